-- The canvas operations of a job's commands, one by one, come to its run. Assumes nothing.
use Prim.Native.Nat.{ℕ, ◌+◌, ◌*◌, ◌≤◌}
use mathlib.Core.Path.{◌≡◌, refl, ap, sym, ◌∙◌}
use mathlib.Core.List.{List, [], ◌∷◌}
use mathlib.Core.Bool.{Bool, true, false}
use native.Mathlib.Nat.{mul-le-mul_left, mul-zero}
use native.Mathlib.Omega.{arith}
use lib.Dec.{eqb}
use lib.ListN.{length}
use borrow.Author.Tests.{le-ltb, eq-eqb, ne_eqb, eqb-true, eqb-false}
use Rattle.numbers.specs.Numbers.{limit, done}
use Rattle.colour.specs.declared.RGBA.{RGBA}
use Rattle.dots.proofs.Laws.{run_none}
use Rattle.job.specs.declared.commands.Command.{Command}
use Rattle.job.specs.declared.commands.Command.TheVariants.{Rectangle, Image, Margin, Flip}
use Rattle.job.specs.Commands.{paper_width, paper_color, commands}
use Rattle.job.specs.Dropping.{reason_of, height_after, height_from, kept_from, dropped_from, job_height, kept_of, job_dropped}
use Rattle.job.proofs.Reasons.{after-fits}
use Rattle.job.proofs.Folds.{height-kept, height-dropped, kept-kept, kept-dropped, dropped-kept, dropped-dropped, height-more}
use Rattle.job.proofs.Soundness.{Sane, sane-rectangle, sane-image, sane-margin, sane-flip, AllSane, sane-more}
use Rattle.job.proofs.Walk.{good, commands-sane}
use Rattle.refusals.specs.Refusals.{canvas_refusal, room_refusal}
use Rattle.thermal_image.specs.Canvas.{canvas, written}
use Rattle.refusals.proofs.Codes.{first_some, first-none, first_done, room-done, rows-some, canvas-refusal-none}
use Rattle.runs.specs.Pictures.{Picture, after, after_all, shown}
use Rattle.runs.specs.Run.{run_refusal, run_picture, run_canvas, run_on}
use Rattle.runs.proofs.Pictures.{length-shown}
use Rattle.runs.proofs.Canvas.{Bare, obeyed}
use Rattle.agreement.specs.Canvas.{outcome, Inside, pixel_bytes, OnCanvas, Upshot, without, performed, RunOnCanvas}
use Rattle.agreement.proofs.Canvas.{commands-on-canvas}

sane-inside : (s : List ℕ) (c : Command) → Sane s c → Inside s c
unfolding Inside
sane-inside s (Rectangle x y w h c mode) (sane-rectangle m) = tt
sane-inside s (Image x y w h sx sy c mode start size) (sane-image m a b e) = e
sane-inside s (Margin m) sane-margin = tt
sane-inside s (Flip x y w h) sane-flip = tt

module _ (s l : List ℕ) (outs : Command → List ℕ) (lent : (c : Command) → length (outs c) ≡ pixel_bytes c) (W : ℕ) (some : 1 ≤ W) (wide : W ≤ limit) (paper : RGBA) where
  -- the canvas that shows p down to row H
  abbrev come : ℕ → ℕ → Picture → List Command → Upshot
  come k H p cs = performed s outs k (canvas W H true paper) (shown W H p l) cs

  -- what the run says of it
  abbrev told : ℕ → ℕ → Picture → List Command → Upshot
  told k H p cs = record {
    image = canvas W (height_from W H cs) true paper;
    bytes = shown W (height_from W H cs) (after_all s paper (kept_from W H cs) p) l;
    dropped = dropped_from W H k cs;
  }

  room_for : {H H' : ℕ} → H ≤ H' → 4 * (W * H') ≤ length l → 4 * (W * H) ≤ length l
  room_for h r = omega (arith, mul-le-mul_left W h)

  canvas-sound : (H : ℕ) (p : Picture) → H ≤ limit → 4 * (W * H) ≤ length l → canvas_refusal W H (length (shown W H p l)) ≡ done
  canvas-sound H p h r =
      rw (length-shown W H p l)
      (sym (canvas-refusal-none W H (length l) wide h {r = H} (sym (rows-some W H some)) (omega arith) (omega arith)))

  enough : (H : ℕ) (p : Picture) (H' : ℕ) → 4 * (W * H') ≤ length l → room_refusal W H' (length (shown W H p l)) ≡ done
  unfolding room_refusal
  enough H p H' r = rw (length-shown W H p l, le-ltb (length l) (4 * (W * H')) r)

  -- commands from place k on, at any height
  abbrev Comes : ℕ → List Command → Type 0
  Comes k cs = (H : ℕ) (p : Picture) → Bare paper H p → H ≤ limit → 4 * (W * height_from W H cs) ≤ length l → come k H p cs ≡ told k H p cs

  module _ (k : ℕ) (c : Command) (cs : List Command) (inside : Inside s c) (rest : Comes (k + 1) cs) (H : ℕ) (p : Picture) (bare : Bare paper H p) (h : H ≤ limit) (r : 4 * (W * height_from W H (c ∷ cs)) ≤ length l) where
    -- the command on that canvas
    claim : OnCanvas s W H paper (shown W H p l) c (outcome s (outs c) (canvas W H true paper) (shown W H p l) c)
    claim = commands-on-canvas s (outs c) (shown W H p l) W H paper c some (canvas-sound H p h (room_for (height-more W H (c ∷ cs)) r)) inside (lent c)

    keep : reason_of W H c ≡ done → come k H p (c ∷ cs) ≡ told k H p (c ∷ cs)
    unfolding performed after_all
    keep e =
        let q : 4 * (W * height_from W (height_after H c) cs) ≤ length l = rw (height-kept W H c cs e) at r in
        let g : 4 * (W * height_after H c) ≤ length l = room_for (height-more W (height_after H c) cs) q in
        let n = claim.number ∙ sym (first-none _ _ e) ∙ enough H p (height_after H c) g in
        let o = obeyed s W some paper H p l bare c e (omega arith) in
        rw (height-kept W H c cs e, kept-kept W H c cs e, dropped-kept W H c cs e k)
        (rw (eq-eqb _ done n, claim.answer n)
        (ap (λ (m : List ℕ). performed s outs (k + 1) (canvas W (height_after H c) true paper) m cs) (claim.bytes n ∙ o.bytes)
        ∙ rest (height_after H c) (after s paper c p) o.bare (after-fits W H c e) q))

    leave : (reason_of W H c ≡ done → ⊥) → come k H p (c ∷ cs) ≡ told k H p (c ∷ cs)
    unfolding performed
    leave e =
        let q : 4 * (W * height_from W H cs) ≤ length l = rw (height-dropped W H c cs e) at r in
        let n = claim.number ∙ sym (first_some _ _ e) in
        rw (height-dropped W H c cs e, kept-dropped W H c cs e, dropped-dropped W H c cs e k)
        (rw (n, ne_eqb (reason_of W H c) done e) (ap (without k (reason_of W H c)) (rest H p bare h q)))

    one_more : come k H p (c ∷ cs) ≡ told k H p (c ∷ cs)
    one_more = by (eqb (reason_of W H c) done) refl
      where
        by : (b : Bool) → eqb (reason_of W H c) done ≡ b → come k H p (c ∷ cs) ≡ told k H p (c ∷ cs)
        by true e = keep (eqb-true _ _ e)
        by false e = leave (eqb-false _ _ e)

  performs : (k : ℕ) (cs : List Command) → AllSane s cs → Comes k cs
  unfolding performed height_from kept_from dropped_from after_all
  performs k [] sane = λ H p bare h r. refl
  performs k (c ∷ cs) (sane-more i sane) = one_more k c cs (sane-inside s c i) (performs (k + 1) cs sane)

-- no rows of a picture
shown-none : (W : ℕ) (p : Picture) (l : List ℕ) → l ≡ shown W 0 p l
unfolding shown
shown-none W p l = rw (mul-zero W) (run_none 0 _ l)

pub run-on-canvas : RunOnCanvas
unfolding run_refusal run_on written run_canvas run_picture job_height job_dropped kept_of
run-on-canvas s l outs b e lent =
    let f = first_done _ _ e in
    let g = good s f.0 in
    let W : ℕ = paper_width s in
    let c : RGBA = paper_color s in
    rw e
    (ap (λ (m : List ℕ). performed s outs 0 (canvas W 0 true c) m (commands s)) (shown-none W (λ _ _. c) l)
    ∙ performs s l outs lent W g.some g.wide c 0 (commands s) (commands-sane s b g) 0 (λ _ _. c) (λ _ _ _. refl) (omega arith) (room-done _ _ _ f.1))
