-- The loops of a run over the commands of a job: the survey, and the drawing. Assumes nothing.
use Prim.Native.Nat.{ℕ, ◌+◌, ◌*◌, ◌≤◌, ◌<◌}
use mathlib.Core.Path.{◌≡◌, refl, ap, sym, ◌∙◌}
use mathlib.Core.List.{List, [], ◌∷◌, ◌++◌}
use mathlib.Core.Bool.{Bool, true, false}
use native.Mathlib.Nat.{mul-le-mul_left, mul-zero}
use native.Mathlib.Omega.{arith}
use borrow.Author.Tests.{eqb-true, eqb-false}
use lib.ListN.{length, length-append}
use Rattle.numbers.specs.Numbers.{limit}
use Rattle.std.specs.Prelude.{if◌then◌else◌}
use Rattle.colour.specs.declared.RGBA.{RGBA}
use Rattle.dots.proofs.Laws.{run_none}
use Rattle.job.specs.declared.records.Rec.TheVariants.{Record, Bad, End}
use Rattle.job.specs.declared.dropping.Dropped.{Dropped}
use Rattle.job.specs.declared.commands.Command.{Command}
use Rattle.job.specs.Records.{record_at}
use Rattle.job.specs.Commands.{sound_command, commands_start, paper_width, paper_color, command_at, commands}
use Rattle.job.specs.Dropping.{most_commands, reason_of, height_after, kept, next_height, height_from, job_height, job_dropped, no_dropped}
use Rattle.job.proofs.Found.{found}
use Rattle.job.proofs.Soundness.{Held, held}
use Rattle.job.proofs.Folds.{keeps, keeps-fits, height-more, filled_more}
use Rattle.job.proofs.Walk.{rest, rest-record, Good, left-sound, left-bad, Looked, looked-start, looked-few, looked-kept, looked-dropped, looked-end}
use Rattle.runs.specs.declared.survey.Survey.{Survey}
use Rattle.runs.specs.Pictures.{Picture, after, after_all, shown}
use Rattle.runs.specs.Run.{run_picture}
use Rattle.runs.specs.Steps.{survey_with, left_out, seen, stepped_on, Room}
use Rattle.runs.proofs.Canvas.{Bare, obeyed}
use Rattle.runs.proofs.Pictures.{length-shown}

-- ---- the survey: k commands are seen

pub record Surveyed (s : List ℕ) (v : Survey) (k at : ℕ) : Type 0 where
  pub H : ℕ
  pub ks : List Command
  pub ds : List Dropped
  pub looked : Looked s k at H ks ds
  pub same : v ≡ survey_with H ds

pub surveyed-start : (s : List ℕ) {v : Survey} → Good s → v ≡ survey_with 0 [] → Surveyed s v 0 commands_start
surveyed-start s g e = record { H = 0; ks = []; ds = []; looked = looked-start s g; same = e }

-- one command more on the list
list-more : (H : ℕ) (ds : List Dropped) (k why : ℕ) → length ds < most_commands → left_out (survey_with H ds) k why ≡ survey_with H (ds ++ (record { place = k; reason = why } ∷ []))
list-more H ds k why h = rw (filled_more no_dropped (record { place = k; reason = why }) ds h, ← length-append ds (record { place = k; reason = why } ∷ [])) refl

module _ (s : List ℕ) (v : Survey) (k at : ℕ) (g : Surveyed s v k at) where
  pub surveyed-bad : Bad ≡ record_at s at → ⊥
  surveyed-bad e = left-bad s at g.looked.left e

  pub surveyed-end : End ≡ record_at s at → v ≡ survey_with (job_height s) (job_dropped s)
  surveyed-end e = let a = looked-end s k at g.H g.ks g.ds g.looked e in g.same ∙ rw (a.height, a.dropped) refl

  module _ {kind st n nx : ℕ} (e : Record kind st n nx ≡ record_at s at) where
    pub surveyed-sound : sound_command s kind st n ≡ true
    surveyed-sound = left-sound s at g.looked.left e

    pub surveyed-few : k < most_commands
    surveyed-few = looked-few s k at g.H g.ks g.ds g.looked e refl

    pub surveyed-room : v.dropped_count < most_commands
    surveyed-room = rw g.same (omega (arith, surveyed-few, g.looked.all))

    pub surveyed-next : {W : ℕ} → W ≡ paper_width s → {c : Command} {v' : Survey} → c ≡ command_at s kind st n → v' ≡ seen W v k c → Surveyed s v' (k + 1) nx
    unfolding seen
    surveyed-next {W} w {c} {v'} q r = by (kept (paper_width s) g.H c) refl
      where
        here : v' ≡ seen (paper_width s) (survey_with g.H g.ds) k c
        here = r ∙ rw (w, g.same) refl

        by : (t : Bool) → kept (paper_width s) g.H c ≡ t → Surveyed s v' (k + 1) nx
        by true z =
            record {
              H = height_after g.H c;
              ks = g.ks ++ (c ∷ []);
              ds = g.ds;
              looked = looked-kept s k at g.H g.ks g.ds g.looked e q (eqb-true _ _ z);
              same = here ∙ rw z refl;
            }
        by false z =
            record {
              H = g.H;
              ks = g.ks;
              ds = g.ds ++ (record { place = k; reason = reason_of (paper_width s) g.H c } ∷ []);
              looked = looked-dropped s k at g.H g.ks g.ds g.looked e q (eqb-false _ _ z);
              same = here ∙ rw z (list-more g.H g.ds k (reason_of (paper_width s) g.H c) (omega (arith, surveyed-few, g.looked.all)));
            }

-- ---- the drawing: the canvas shows the picture so far, on the buffer l as it was

after_more : (s : List ℕ) (paper : RGBA) (ks : List Command) (c : Command) (p : Picture) → after_all s paper (ks ++ (c ∷ [])) p ≡ after s paper c (after_all s paper ks p)
unfolding after_all
after_more s paper [] c p = refl
after_more s paper (d ∷ ks) c p = after_more s paper ks c (after s paper d p)

-- the picture after the commands ks
abbrev drawn_by : List ℕ → List Command → Picture
drawn_by s ks = after_all s (paper_color s) ks (λ _ _. paper_color s)

pub record Drawing (s l b : List ℕ) (H at : ℕ) : Type 0 where
  pub k : ℕ
  pub ks : List Command
  pub ds : List Dropped
  pub looked : Looked s k at H ks ds
  pub bytes : b ≡ shown (paper_width s) H (drawn_by s ks) l
  pub long : length b ≡ length l
  pub bare : Bare (paper_color s) H (drawn_by s ks)

pub drawing-start : (s l : List ℕ) → Good s → Drawing s l l 0 commands_start
unfolding after_all shown
drawing-start s l g = record { k = 0; ks = []; ds = []; looked = looked-start s g; bytes = rw (mul-zero (paper_width s)) (run_none 0 _ l); long = refl; bare = λ i j h. refl }

module _ (s l b : List ℕ) (H at : ℕ) (room : paper_width s * job_height s * 4 ≤ length l) (good : Good s) (g : Drawing s l b H at) where
  pub drawing-bad : Bad ≡ record_at s at → ⊥
  drawing-bad e = left-bad s at g.looked.left e

  pub drawing-end : End ≡ record_at s at → b ≡ shown (paper_width s) (job_height s) (run_picture s) l
  unfolding run_picture
  drawing-end e = let a = looked-end s g.k at H g.ks g.ds g.looked e in g.bytes ∙ rw (a.height, a.kept) refl

  module _ {kind st n nx : ℕ} (e : Record kind st n nx ≡ record_at s at) where
    pub drawing-sound : sound_command s kind st n ≡ true
    drawing-sound = left-sound s at g.looked.left e

    module _ {c : Command} (q : c ≡ command_at s kind st n) where
      -- no height on the way is above the last
      reaches : next_height (paper_width s) H c ≤ job_height s
      unfolding height_from
      reaches =
          let W : ℕ = paper_width s in
          let r : rest s at ≡ c ∷ rest s nx = rest-record s at e ∙ rw (← q) refl in
          let h : height_from W H (c ∷ rest s nx) ≡ job_height s = rw r at g.looked.height in
          omega (arith, height-more W (next_height W H c) (rest s nx), h)

      fits : paper_width s * next_height (paper_width s) H c * 4 ≤ length l
      fits = omega (arith, mul-le-mul_left (paper_width s) reaches)

      tall : next_height (paper_width s) H c ≤ limit
      unfolding job_height
      tall = omega (arith, reaches, keeps-fits (keeps (paper_width s) 0 (commands s)) (omega arith))

      room-here : Room (paper_width s) (next_height (paper_width s) H c) (length b)
      room-here = record { some = good.some; wide = good.wide; tall = tall; room = rw (g.bytes, length-shown _ _ _ l) fits }

      drawing-held : Held s c
      drawing-held = let f = found s at e in rw q (held s kind st n (omega (arith, f.whole, f.fits)) drawing-sound)

      one_more : {b' : List ℕ} → b' ≡ stepped_on s (paper_width s) (paper_color s) H c b → Drawing s l b' (next_height (paper_width s) H c) nx
      unfolding stepped_on next_height
      one_more {b'} r = by (kept (paper_width s) H c) refl
        where
          by : (t : Bool) → kept (paper_width s) H c ≡ t → Drawing s l b' (if t then height_after H c else H) nx
          by true z =
              let d = eqb-true _ _ z in
              let a = obeyed s (paper_width s) good.some (paper_color s) H (drawn_by s g.ks) l g.bare c d (rw z at fits) in
              let m = after_more s (paper_color s) g.ks c (λ _ _. paper_color s) in
              let shows : b' ≡ shown (paper_width s) (height_after H c) (drawn_by s (g.ks ++ (c ∷ []))) l = r ∙ rw (z, g.bytes) a.bytes ∙ ap (λ (p : Picture). shown (paper_width s) (height_after H c) p l) (sym m) in
              record {
                k = g.k + 1;
                ks = g.ks ++ (c ∷ []);
                ds = g.ds;
                looked = looked-kept s g.k at H g.ks g.ds g.looked e q d;
                bytes = shows;
                long = ap length shows ∙ length-shown _ _ _ l;
                bare = rw m a.bare;
              }
          by false z =
              record {
                k = g.k + 1;
                ks = g.ks;
                ds = g.ds ++ (record { place = g.k; reason = reason_of (paper_width s) H c } ∷ []);
                looked = looked-dropped s g.k at H g.ks g.ds g.looked e q (eqb-false _ _ z);
                bytes = r ∙ rw z g.bytes;
                long = ap length r ∙ rw z g.long;
                bare = g.bare;
              }

      -- the width and the paper that were read
      module _ {W : ℕ} (w : W ≡ paper_width s) where
        pub drawing-room : Room W (next_height W H c) (length b) × (H ≤ limit) × Held s c
        drawing-room = (rw w room-here, g.looked.fits, drawing-held)

        pub drawing-next : {paper : RGBA} → paper ≡ paper_color s → {r : ℕ} {b' : List ℕ} → r ≡ next_height W H c → b' ≡ stepped_on s W paper H c b → Drawing s l b' r nx
        drawing-next p {r} q e =
            let h : r ≡ next_height (paper_width s) H c = q ∙ rw w refl in
            rw h (one_more (e ∙ rw (w, p) refl))
