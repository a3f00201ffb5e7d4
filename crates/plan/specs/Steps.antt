-- Inner steps of a translation: what is made of a plan record at each command.
use Rattle.std.specs.Prelude.{ℕ, zero, suc, ◌+◌, ◌≤◌, ◌<◌, max, List, [], ◌∷◌, get_or, set, if◌then◌else◌}
use Rattle.numbers.specs.Numbers.{limit}
use Rattle.images.specs.Stretching.{factor}
use Rattle.job.specs.declared.commands.Command.{Command}
use Rattle.job.specs.declared.commands.Command.TheVariants.{Rectangle, Image, Margin, Flip}
use Rattle.job.specs.Dropping.{most_commands, reason_of, kept}
use Rattle.entries.specs.declared.Entry.{Entry}
use Rattle.plan.specs.declared.Plan.{Plan}
use Rattle.entries.specs.Entries.{rectangle_entry, image_entry}
use Rattle.plan.specs.Plan.{lower, no_entry}

-- the first n entries m rows further down
unfoldable pub lowered_entries : ℕ → ℕ → List Entry → List Entry
lowered_entries m zero es = es
lowered_entries m (suc n) [] = []
lowered_entries m (suc n) (e ∷ es) = lower m e ∷ lowered_entries m n es

abbrev pub with_entries : Plan → ℕ → ℕ → List Entry → Plan
with_entries p height count es = record {
  width = p.width;
  height = height;
  paper_color = p.paper_color;
  count = count;
  entries = es;
  dropped_count = p.dropped_count;
  dropped = p.dropped;
}

-- one entry more, and the height after it
abbrev pub pushed : Plan → Entry → Plan
pushed p e = with_entries p (max p.height (e.y + e.h)) (p.count + 1) (set p.entries p.count e)

-- a margin of m rows
abbrev pub shifted : Plan → ℕ → Plan
shifted p m = with_entries p (p.height + m) p.count (lowered_entries m p.count p.entries)

-- one dropped command more
abbrev pub left_out : Plan → ℕ → ℕ → Plan
left_out p k why = record {
  width = p.width;
  height = p.height;
  paper_color = p.paper_color;
  count = p.count;
  entries = p.entries;
  dropped_count = p.dropped_count + 1;
  dropped = set p.dropped p.dropped_count (record { place = k; reason = why });
}

unfoldable pub planned : Plan → Command → Plan
planned p (Rectangle x y w h c m) = pushed p (rectangle_entry p.width x y w h c m)
planned p (Image x y w h sx sy c m start size) = pushed p (image_entry p.width x y w h (factor sx) (factor sy) c m start)
planned p (Margin m) = shifted p m
planned p (Flip x y w h) = p

unfoldable pub stepped : Plan → ℕ → Command → Plan
stepped p k c = if kept p.width p.height c then planned p c else left_out p k (reason_of p.width p.height c)

-- ---- when a step may be taken

-- a margin of m rows
pub record RoomForRows (p : Plan) (m : ℕ) : Type 0 where
  pub few : p.count ≤ most_commands
  pub tall : p.height + m ≤ limit
  pub low : (i : ℕ) → i < p.count → (get_or p.entries i no_entry).y ≤ p.height

-- one command more, kept or dropped
pub record RoomForCommand (p : Plan) : Type 0 where
  pub entry : p.count < most_commands
  pub drop : p.dropped_count < most_commands
  pub tall : p.height ≤ limit
  pub low : (i : ℕ) → i < p.count → (get_or p.entries i no_entry).y ≤ p.height
