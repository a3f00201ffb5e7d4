-- What the functions of a run answer, and what they ask. Assumes nothing.
use Prim.Native.Nat.{ℕ, ◌+◌, ◌*◌, ◌-◌, ◌≤◌, ◌<◌, max}
use mathlib.Core.Path.{◌≡◌, refl, ap, sym, ◌∙◌}
use mathlib.Core.List.{List}
use mathlib.Core.Bool.{Bool, true, false}
use native.Mathlib.Nat.{mul-le-mul_left, mul-add, mul_comm}
use native.Mathlib.Omega.{arith}
use borrow.Author.Tests.{eq-eqb, ne_eqb, ltb-false}
use lib.ListN.{length}
use Rattle.numbers.specs.Numbers.{limit, done, no_room}
use Rattle.numbers.proofs.Sides.{area}
use Rattle.std.specs.Prelude.{if◌then◌else◌}
use Rattle.colour.specs.declared.RGBA.{RGBA}
use Rattle.dots.specs.Dots.{change, within}
use Rattle.images.specs.Stretching.{factor}
use Rattle.areas.specs.Areas.{Fits, flipped_on}
use Rattle.moves.specs.Moves.{lowered_on}
use Rattle.job.specs.declared.commands.Command.{Command}
use Rattle.job.specs.declared.commands.Command.TheVariants.{Rectangle, Image, Margin, Flip}
use Rattle.job.specs.Commands.{paper_width, paper_color}
use Rattle.job.specs.Dropping.{reason_of, height_after, next_height, job_refusal, job_height, job_dropped}
use Rattle.job.proofs.Soundness.{sane-rectangle, sane-image, Held}
use Rattle.job.proofs.Reasons.{rectangle-kept, stretched-kept}
use Rattle.entries.specs.declared.Entry.{Entry}
use Rattle.entries.specs.Entries.{rectangle_entry, image_entry, good_entry}
use Rattle.entries.specs.Steps.{entry_rows, Placed}
use Rattle.entries.proofs.Good.{rectangle-good, image-good}
use Rattle.refusals.specs.Refusals.{first, room_refusal}
use Rattle.thermal_image.specs.Canvas.{canvas, written, papered}
use Rattle.thermal_image.proofs.Paper.{length-papered, papered-none, papered-run}
use Rattle.runs.specs.declared.Ran.{Ran}
use Rattle.runs.specs.declared.survey.Survey.{Survey}
use Rattle.runs.specs.Pictures.{shown}
use Rattle.runs.specs.Run.{run_refusal, run_picture, run_canvas, refused_run, ran, run_on}
use Rattle.runs.specs.Steps.{survey_with, left_out, reached, seen, placed_on, obeyed_on, stepped_on, Room}

-- ---- the survey

module _ (W : ℕ) (v : Survey) (k : ℕ) (d : Command) {why : ℕ} (e : why ≡ reason_of W v.height d) where
  pub seen-out : (why ≡ done → ⊥) → {r : Survey} → r ≡ left_out v k why → r ≡ seen W v k d
  unfolding seen
  seen-out n g = g ∙ rw (ne_eqb (reason_of W v.height d) done (λ z. n (e ∙ z)), e)

  pub seen-in : why ≡ done → {h : ℕ} → h ≡ height_after v.height d → reached v h ≡ seen W v k d
  unfolding seen
  seen-in z g = rw (eq-eqb (reason_of W v.height d) done (sym e ∙ z), g) refl

-- ---- growing

module _ (W : ℕ) (paper : RGBA) (H end : ℕ) (l : List ℕ) where
  pub grow-none : end ≤ H → (H ≡ max H end) × (l ≡ papered W H (max H end) paper l)
  grow-none h = let e : H ≡ max H end = omega arith in (e, rw (← e) (papered-none W H paper l))

  pub grow-some : H < end → {m : List ℕ} → m ≡ change (within (W * H) (W * H + (W * end - W * H))) (λ _ _. paper) l → (end ≡ max H end) × (m ≡ papered W H (max H end) paper l)
  grow-some h g = let e : end ≡ max H end = omega arith in (e, papered-run W H end paper l e g)

  pub grow-asks : {n : ℕ} → Room W (max H end) n → H < end → (W * H + (W * end - W * H)) * 4 ≤ n
  grow-asks r h =
      let e : max H end ≡ end = omega arith in
      let f : W * max H end ≡ W * end = ap (λ (k : ℕ). W * k) e in
      omega (arith, r.room, mul-le-mul_left W h)

-- ---- an entry placed

pub place-asks : (W H y h : ℕ) (paper : RGBA) (l : List ℕ) {b : List ℕ} → Room W (max H (y + h)) (length l) → b ≡ papered W H (max H (y + h)) paper l → Placed W y y h (length b)
place-asks W H y h paper l r e =
    record {
      some = r.some;
      wide = r.wide;
      last = omega (arith, r.tall);
      room = rw (e, length-papered W H (max H (y + h)) paper l) (omega (arith, r.room, mul-le-mul_left W (below H (y + h)), mul_comm W (y + h)));
    }
  where
    below : (a b : ℕ) → b ≤ max a b
    below a b = omega arith

pub place-answers : (s : List ℕ) (W : ℕ) (paper : RGBA) (H : ℕ) (e : Entry) (l : List ℕ) {b m : List ℕ} → b ≡ papered W H (max H (e.y + e.h)) paper l
    → m ≡ entry_rows s e W e.y e.y e.h b → m ≡ placed_on s W paper H e l
unfolding placed_on
place-answers s W paper H e l g f = f ∙ rw g refl

-- ---- a command

module _ (s : List ℕ) (W : ℕ) (paper : RGBA) (H : ℕ) (l : List ℕ) {r : ℕ} {m : List ℕ} where
  module _ {e : Entry} (g : r ≡ max H (e.y + e.h)) (f : m ≡ placed_on s W paper H e l) where
    pub rectangle-obeyed : (x y w h : ℕ) (c : RGBA) (mode : ℕ) → e ≡ rectangle_entry W x y w h c mode
        → (r ≡ height_after H (Rectangle x y w h c mode)) × (m ≡ obeyed_on s W paper H (Rectangle x y w h c mode) l)
    unfolding height_after obeyed_on rectangle_entry
    rectangle-obeyed x y w h c mode q = (g ∙ rw q refl, f ∙ rw q refl)

    pub image-obeyed : (x y w h sx sy : ℕ) (c : RGBA) (mode start size : ℕ) → e ≡ image_entry W x y w h (factor sx) (factor sy) c mode start
        → (r ≡ height_after H (Image x y w h sx sy c mode start size)) × (m ≡ obeyed_on s W paper H (Image x y w h sx sy c mode start size) l)
    unfolding height_after obeyed_on image_entry
    image-obeyed x y w h sx sy c mode start size q = (g ∙ rw q refl, f ∙ rw q refl)

  pub margin-obeyed : (n : ℕ) → r ≡ H + n → m ≡ lowered_on (W * H) (W * n) paper l → (r ≡ height_after H (Margin n)) × (m ≡ obeyed_on s W paper H (Margin n) l)
  unfolding height_after obeyed_on
  margin-obeyed n g f = (g, f)

  pub flip-obeyed : (x y w h : ℕ) → r ≡ max H (y + h) → {b : List ℕ} → b ≡ papered W H (max H (y + h)) paper l → m ≡ flipped_on W x y w h b
      → (r ≡ height_after H (Flip x y w h)) × (m ≡ obeyed_on s W paper H (Flip x y w h) l)
  unfolding height_after obeyed_on
  flip-obeyed x y w h g e f = (g, f ∙ rw e refl)

module _ (s : List ℕ) (W : ℕ) (paper : RGBA) (H : ℕ) (l : List ℕ) (d : Command) {why : ℕ} (e : why ≡ reason_of W H d) where
  pub step-out : (why ≡ done → ⊥) → (H ≡ next_height W H d) × (l ≡ stepped_on s W paper H d l)
  unfolding next_height stepped_on
  step-out n = rw (ne_eqb (reason_of W H d) done (λ z. n (e ∙ z))) (refl, refl)

  module _ (z : why ≡ done) where
    pub kept_of : reason_of W H d ≡ done
    kept_of = sym e ∙ z

    -- the room that was asked for is that of the height after the command
    kept-room : {n : ℕ} → Room W (next_height W H d) n → Room W (height_after H d) n
    unfolding next_height
    kept-room r = rw (eq-eqb (reason_of W H d) done kept_of) at r

    pub step_in : {d' : Command} → d ≡ d' → {h : ℕ} {m : List ℕ} → (h ≡ height_after H d') × (m ≡ obeyed_on s W paper H d' l) → (h ≡ next_height W H d) × (m ≡ stepped_on s W paper H d l)
    unfolding next_height stepped_on
    step_in q g = rw (eq-eqb (reason_of W H d) done kept_of, q) g

    module _ {n : ℕ} (r : Room W (next_height W H d) n) where
      -- what an entry asks for
      pub rectangle-asks : {x y w h mode : ℕ} {c : RGBA} → d ≡ Rectangle x y w h c mode → Held s d → {f : Entry} → f ≡ rectangle_entry W x y w h c mode
          → Room W (max H (f.y + f.h)) n × (good_entry W limit (length s) f ≡ true)
      unfolding height_after rectangle_entry
      rectangle-asks {x} {y} {w} {h} {mode} {c} q a p =
          let k = rectangle-kept W H kept_of q in
          rw p (rw q at (kept-room r), rectangle-good W limit (length s) x y w h c mode k.on (mode_of (rw q at a)) (omega (arith, k.fits)))
        where
          mode_of : Held s (Rectangle x y w h c mode) → mode ≤ 1
          mode_of (sane-rectangle b) = b

      pub image-asks : {x y w h sx sy mode start size : ℕ} {c : RGBA} → d ≡ Image x y w h sx sy c mode start size → Held s d → sx ≤ 255 → sy ≤ 255
          → {f : Entry} → f ≡ image_entry W x y w h (factor sx) (factor sy) c mode start → Room W (max H (f.y + f.h)) n × (good_entry W limit (length s) f ≡ true)
      unfolding height_after image_entry
      image-asks {x} {y} {w} {h} {sx} {sy} {mode} {start} {size} {c} q a bx by p =
          let k = stretched-kept W H kept_of q in
          let g = part_of (rw q at a) in
          rw p
          (rw q at (kept-room r), image-good W limit (length s) x y w h c mode k.put.on g.0 sx sy start (omega (arith, k.put.fits)) bx by (omega (arith, g.1, k.bytes)))
        where
          part_of : Held s (Image x y w h sx sy c mode start size) → (mode ≤ 1) × (start + size ≤ length s)
          part_of (sane-image b px py room) = (b, room)

      pub margin-room : {m : ℕ} → d ≡ Margin m → Room W (H + m) n
      unfolding height_after
      margin-room q = rw q at (kept-room r)

      pub flip-room : {x y w h : ℕ} → d ≡ Flip x y w h → Room W (max H (y + h)) n
      unfolding height_after
      flip-room q = rw q at (kept-room r)

-- a margin's and a flip's room, as the moves and areas ask for it
pub margin-asks : (W H m : ℕ) {n : ℕ} → Room W (H + m) n → (W * m + W * H) * 4 ≤ n
margin-asks W H m r = omega (arith, r.room, mul-add W H m)

pub margin-fits : (W H m : ℕ) {n : ℕ} → Room W (H + m) n → W * m ≤ 268435456
margin-fits W H m r = area {a = W} {b = m} r.wide (omega (arith, r.tall))

pub flip_asks : (W H x y w h : ℕ) (paper : RGBA) (l : List ℕ) {b : List ℕ} → Room W (max H (y + h)) (length l) → x + w ≤ W → b ≡ papered W H (max H (y + h)) paper l → Fits W x y w h (length b)
flip_asks W H x y w h paper l r a e = let p = place-asks W H y h paper l r e in record { some = r.some; across = a; down = p.room }

-- ---- the answer

module _ (s l : List ℕ) {number : ℕ} (e : number ≡ job_refusal s) where
  pub job-refused : (number ≡ done → ⊥) → {r : Ran} → r ≡ refused_run number → (r ≡ ran s (length l)) × (l ≡ run_on s l)
  unfolding ran run_on run_refusal first written
  job-refused n g = rw (← e, ne_eqb number done n) (rw (ne_eqb number done n) (g, refl))

  module _ (z : number ≡ done) {lacking : ℕ} (f : lacking ≡ room_refusal (paper_width s) (job_height s) (length l)) where
    found : run_refusal s (length l) ≡ lacking
    unfolding run_refusal first
    found = rw (← e, z, ← f) refl

    pub room-refused : (lacking ≡ done → ⊥) → {r : Ran} → r ≡ refused_run lacking → (r ≡ ran s (length l)) × (l ≡ run_on s l)
    unfolding ran run_on written
    room-refused n g = rw (found, ne_eqb lacking done n) (g, refl)

    pub run-done : lacking ≡ done → {W : ℕ} {paper : RGBA} {v : Survey} {m : List ℕ} → W ≡ paper_width s → paper ≡ paper_color s → v ≡ survey_with (job_height s) (job_dropped s)
        → m ≡ shown (paper_width s) (job_height s) (run_picture s) l
        → (◌≡◌ {A = Ran} (record { number = done; image = canvas W v.height true paper; dropped_count = v.dropped_count; dropped = v.dropped }) (ran s (length l))) × (m ≡ run_on s l)
    unfolding ran run_on written run_canvas
    run-done y a b c h = rw (found, y) (rw (a, b, c) refl, h)

-- the room that was tried is that of the job's height
pub tried : (s : List ℕ) (n : ℕ) {W lacking : ℕ} {v : Survey} → W ≡ paper_width s → v ≡ survey_with (job_height s) (job_dropped s) → lacking ≡ room_refusal W v.height n → lacking ≡ room_refusal (paper_width s) (job_height s) n
tried s n a c f = f ∙ rw (a, c) refl

pub room-enough : (s : List ℕ) (n : ℕ) {lacking : ℕ} → lacking ≡ room_refusal (paper_width s) (job_height s) n → lacking ≡ done → paper_width s * job_height s * 4 ≤ n
unfolding room_refusal
room-enough s n f y = let h = ltb-false n (4 * (paper_width s * job_height s)) (not-lacking _ (sym f ∙ y)) in omega arith
  where
    not-lacking : (t : Bool) → (if t then no_room else done) ≡ done → t ≡ false
    not-lacking true e = absurd (omega arith)
    not-lacking false e = refl
