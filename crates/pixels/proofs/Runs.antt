-- The loops that draw pixels on a run: i of them are drawn in b. A start, a turn that draws n of them at once, a turn that writes one dot, and an end. Assumes nothing.
use mathlib.Core.Path.{◌≡◌, refl, ap, ◌∙◌}
use mathlib.Core.List.{List}
use mathlib.Core.Bool.{Bool}
use Prim.Native.Nat.{ℕ, ◌+◌, ◌-◌, ◌*◌, ◌≤◌, ◌<◌}
use native.Mathlib.Nat.{add-zero}
use native.Mathlib.Omega.{arith}
use lib.ListN.{length}
use Rattle.colour.specs.declared.RGBA.{RGBA}
use Rattle.dots.specs.Dots.{dot_at, set_dot, drawn}
use Rattle.dots.proofs.Laws.{length-change, run_none, run_more, run-turn}
use Rattle.pixels.specs.Pixels.{pixels_on}

-- a dot that is written is a run of one
one-dot : (multiply : Bool) (pixels : List ℕ) (from at : ℕ) (b : List ℕ) {m : List ℕ} {p s d : RGBA} → at * 4 + 4 ≤ length b
    → p ≡ dot_at pixels from → s ≡ dot_at b at → d ≡ drawn multiply p s → m ≡ set_dot b at d → m ≡ pixels_on multiply pixels from at 1 b
unfolding pixels_on
one-dot multiply pixels from at b {p = p} h ep es ed em =
    let e : from + (at - at) ≡ from = omega arith in
    run-turn at at _ b (omega arith) h (run_none at _ b) (ed ∙ rw (ep, es, e)) em

module _ (multiply : Bool) (pixels : List ℕ) (from at count : ℕ) (l : List ℕ) where
  pub record Drawn (i : ℕ) (b : List ℕ) : Type 0 where
    pub upto : i ≤ count
    pub same : length b ≡ length l
    pub sofar : b ≡ pixels_on multiply pixels from at i l

  pub drawn-start : Drawn 0 l
  unfolding pixels_on
  drawn-start = record { upto = omega arith; same = refl; sofar = rw add-zero (run_none at _ l) }

  pub drawn-more : (n : ℕ) {i : ℕ} {b m : List ℕ} → Drawn i b → i + n ≤ count → m ≡ pixels_on multiply pixels (from + i) (at + i) n b → Drawn (i + n) m
  unfolding pixels_on
  drawn-more n {i} {b} r t em =
      let e : at + i + n ≡ at + (i + n) = omega arith in
      record {
        upto = t;
        same = ap length em ∙ length-change _ _ b ∙ r.same;
        sofar =
            rw e at
            (run_more at (at + i) (at + i + n) _ (λ k d. drawn multiply (dot_at pixels (from + (k - at))) d) l (omega arith) (omega arith)
            (λ k u v d. let p : from + i + (k - (at + i)) ≡ from + (k - at) = omega arith in rw p) r.sofar em);
      }

  pub drawn-next : {i : ℕ} {b m : List ℕ} {p s d : RGBA} → Drawn i b → i < count → (at + count) * 4 ≤ length l
      → p ≡ dot_at pixels (from + i) → s ≡ dot_at b (at + i) → d ≡ drawn multiply p s → m ≡ set_dot b (at + i) d → Drawn (i + 1) m
  drawn-next {i} {b} r t room ep es ed em = drawn-more 1 r (omega arith) (one-dot multiply pixels (from + i) (at + i) b (omega (arith, r.same)) ep es ed em)

  pub drawn-at : {i k : ℕ} {b : List ℕ} → i ≡ k → Drawn i b → Drawn k b
  drawn-at e r = rw e at r

  pub drawn-end : {i : ℕ} {b : List ℕ} → Drawn i b → count ≤ i → b ≡ pixels_on multiply pixels from at count l
  drawn-end {i} r t = let e : i ≡ count = omega (arith, r.upto) in rw e at r.sofar
