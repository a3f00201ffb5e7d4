-- Every plan that translation makes keeps the plan rules, so that each of its rows is given. Assumes nothing.
use Prim.Native.Nat.{ℕ, ◌+◌, ◌*◌, ◌≤◌, max}
use mathlib.Core.Path.{◌≡◌, refl, ap}
use mathlib.Core.List.{List}
use mathlib.Core.Bool.{true, ◌&&◌}
use native.Mathlib.Omega.{arith}
use borrow.Author.Tests.{le-leb, leb-true}
use lib.Dec.{leb}
use lib.ListN.{length}
use Rattle.colour.proofs.Tests.{and_both}
use Rattle.images.specs.Stretching.{factor}
use Rattle.job.specs.declared.commands.Command.{Command}
use Rattle.job.specs.declared.commands.Command.TheVariants.{Rectangle, Image, Margin, Flip}
use Rattle.job.specs.Commands.{paper_width, sound_mode, commands}
use Rattle.job.specs.Dropping.{height_after, kept_of, job_height}
use Rattle.job.proofs.Reasons.{rectangle-kept, stretched-kept}
use Rattle.job.proofs.Folds.{Keeps, none, keep, drop, keeps, keeps-fits}
use Rattle.job.proofs.Soundness.{sane-rectangle, sane-image, AllSane, sane-more}
use Rattle.job.proofs.Walk.{Good, commands-sane}
use Rattle.entries.specs.declared.Entry.{Entry}
use Rattle.entries.specs.Entries.{rectangle_entry, image_entry, good_stretch, good_image, good_kind, good_entry}
use Rattle.entries.proofs.Good.{rectangle-good, image-good}
use Rattle.plan.specs.Plan.{lower, margins, entries_of}
use Rattle.plan.proofs.Listed.{entries-few}
use Rattle.rows.specs.Rows.{good_entries}
use Rattle.rows.proofs.Rules as rules
use Rattle.job.specs.Records.{Bytes}

-- an entry m rows further down, in a plan that is at least m rows higher
lower-good : (W H H' n m : ℕ) (e : Entry) → H + m ≤ H' → good_entry W H n e ≡ true → good_entry W H' n (lower m e) ≡ true
unfolding good_entry good_kind good_image good_stretch
lower-good W H H' n m e h g =
    let a = and_both (sound_mode e.mode && leb (e.x + e.w) W && leb (e.y + e.h) H) (good_kind n e) g in
    let b = and_both (sound_mode e.mode && leb (e.x + e.w) W) (leb (e.y + e.h) H) a.0 in
    rw (b.0, le-leb (e.y + m + e.h) H' (omega (arith, leb-true (e.y + e.h) H b.1))) a.1

-- the rows that margins add are part of the height
margins-fit : {W H H' : ℕ} {cs ks : List Command} → Keeps W H cs ks H' → H + margins ks ≤ H'
unfolding margins height_after
margins-fit none = omega arith
margins-fit (keep {c = Rectangle x y w h c m} e r) = omega (arith, margins-fit r)
margins-fit (keep {c = Image x y w h sx sy c m start size} e r) = omega (arith, margins-fit r)
margins-fit (keep {c = Margin m} e r) = omega (arith, margins-fit r)
margins-fit (keep {c = Flip x y w h} e r) = omega (arith, margins-fit r)
margins-fit (drop r) = margins-fit r

entries-good : (s : List ℕ) {W H H' : ℕ} {cs ks : List Command} → Keeps W H cs ks H' → AllSane s cs → good_entries W H' (length s) (entries_of W ks) ≡ true
unfolding good_entries entries_of height_after
entries-good s none a = refl
entries-good s {W} {H} {H'} (keep {c = Rectangle x y w h c mode} {ks = ks} e r) (sane-more (sane-rectangle m) a) =
    let k = rectangle-kept W H e refl in
    rw (lower-good W (max H (y + h)) H' (length s) (margins ks) (rectangle_entry W x y w h c mode) (margins-fit r) (rectangle-good W (max H (y + h)) (length s) x y w h c mode k.on m (omega arith)))
    (entries-good s r a)
entries-good s {W} {H} {H'} (keep {c = Image x y w h sx sy c mode start size} {ks = ks} e r) (sane-more (sane-image m bx by room) a) =
    let k = stretched-kept W H e refl in
    let T : ℕ = max H (y + h * factor sy) in
    rw (lower-good W T H' (length s) (margins ks) (image_entry W x y w h (factor sx) (factor sy) c mode start) (margins-fit r) (image-good W T (length s) x y w h c mode k.put.on m sx sy start (omega arith) bx by (omega (arith, k.bytes))))
    (entries-good s r a)
entries-good s (keep {c = Margin m} e r) (sane-more b a) = entries-good s r a
entries-good s (keep {c = Flip x y w h} e r) (sane-more b a) = entries-good s r a
entries-good s (drop r) (sane-more b a) = entries-good s r a

kept-few : {W H H' : ℕ} {cs ks : List Command} → Keeps W H cs ks H' → length ks ≤ length cs
kept-few none = omega arith
kept-few (keep e r) = omega (arith, kept-few r)
kept-few (drop r) = omega (arith, kept-few r)

pub plan-rules : (s : List ℕ) → Bytes s → Good s → let es = entries_of (paper_width s) (kept_of s) in rules.Good (paper_width s) (job_height s) (length s) (length es) es
unfolding kept_of job_height
plan-rules s b g =
    let r = keeps (paper_width s) 0 (commands s) in
    record {
      sizes = record {
        some = g.some;
        wide = g.wide;
        tall = keeps-fits r (omega arith);
        few = omega (arith, entries-few (paper_width s) (kept_of s), kept-few r, ap length g.commands, g.few);
      };
      entries = entries-good s r (commands-sane s b g);
    }
