-- Bytes that a loop writes one by one, and what they make of the dots. Assumes nothing.
use Rattle.std.proofs.Common.{◌≡◌, refl, sym, ap, ◌∙◌, ◌≢◌, ⊎_elim, List, ◌++◌, length, get_or, set, take, drop, Bool, true, false, ◌||◌, true≢false, if◌then◌else◌, ℕ, ◌+◌, ◌-◌, ◌*◌, ◌≤◌, ◌<◌, arith, length-set, length-append, length-drop, length-take-le, get_or-take, get_or-drop, get_or-set_same, get_or-set_other}
use mathlib.Core.Bool.{or-true, or-false, or_comm}
use lib.ListN.{get_or-eq_default}
use Rattle.std.proofs.lemmas.List.{get_or_append_left, get_or-append_right}
use Rattle.dots.specs.Dots.{dot_at, change, within}
use Rattle.dots.proofs.Laws.{below, length-tab, get_or-tab, tab-ext, byte_of, dot-of, change-ext, Place, before, inside, past, place, within-yes, within_low, within-high, within-true, within-then}
use Rattle.moves.specs.Parts.{over}

module _ (p : ℕ → Bool) (F : ℕ → ℕ) (l : List ℕ) where
  pub length_over : length (over p F l) ≡ length l
  unfolding over
  length_over = length-tab (length l) _

  over-byte : (j : ℕ) → j < length l → get_or (over p F l) j 0 ≡ (if p j then F j else get_or l j 0)
  unfolding over
  over-byte j h = get_or-tab (length l) _ j 0 h

  pub over-picked : (j : ℕ) → p j ≡ true → j < length l → get_or (over p F l) j 0 ≡ F j
  over-picked j e h = over-byte j h ∙ rw e

  pub over-kept : (j : ℕ) → p j ≡ false → get_or (over p F l) j 0 ≡ get_or l j 0
  over-kept j e =
      ⊎_elim
      (λ w. over-byte j w ∙ rw e)
      (λ w. get_or-eq_default (over p F l) 0 {n = j} (omega (arith, length_over)) ∙ sym (get_or-eq_default l 0 w))
      (below j (length l))

  over-ext : (m : List ℕ) → length m ≡ length l → ((j : ℕ) → j < length l → get_or m j 0 ≡ (if p j then F j else get_or l j 0)) → m ≡ over p F l
  unfolding over
  over-ext m e h = tab-ext (length l) _ m e h

  pub over_none : ((j : ℕ) → p j ≡ false) → l ≡ over p F l
  over_none h = over-ext l refl (λ j b. rw (h j))

-- one byte more, byte i
over-step : (p q : ℕ → Bool) (F : ℕ → ℕ) (l : List ℕ) (i : ℕ) → i < length l
    → ((j : ℕ) → q j ≡ (p j || within i (i + 1) j)) → set (over p F l) i (F i) ≡ over q F l
over-step p q F l i b h =
    over-ext q F l (set m i (F i)) (length-set m i (F i) ∙ length_over p F l) (λ j c. rw (h j) (at j c (within i (i + 1) j) refl))
  where
    m : List ℕ
    m = over p F l

    at : (j : ℕ) → j < length l → (t : Bool) → within i (i + 1) j ≡ t → get_or (set m i (F i)) j 0 ≡ (if p j || t then F j else get_or l j 0)
    at j c true e =
        let w = within-true i (i + 1) j e in
        let ji : j ≡ i = omega arith in
        rw (or-true, ji) (get_or-set_same m i (F i) 0 (rw length_over b))
    at j c false e =
        let n : j ≢ i = λ z. true≢false (sym (within-yes i (i + 1) j (omega arith) (omega arith)) ∙ e) in
        rw or-false (get_or-set_other m i j (F i) 0 n ∙ over-byte p F l j c)

-- ---- a turn of a loop over a run of bytes: b is the buffer at the loop's head, m the buffer after the turn

pub over-empty : (at : ℕ) (F : ℕ → ℕ) (l : List ℕ) → l ≡ over (within at at) F l
over-empty at F l = over_none (within at at) F l (λ i. none i (place at at i))
  where
    none : (i : ℕ) → Place at at i → within at at i ≡ false
    none i (before h) = within_low at at i h
    none i (inside h k) = absurd (omega arith)
    none i (past h k) = within-high at at i k

pub over-up : (at i : ℕ) (F : ℕ → ℕ) (l : List ℕ) → at ≤ i → i < length l
    → {b m : List ℕ} {v : ℕ} → b ≡ over (within at i) F l → v ≡ F i → m ≡ set b i v → m ≡ over (within at (i + 1)) F l
over-up at i F l h r eb ev em = em ∙ rw (ev, eb) (over-step _ _ F l i r (λ j. within-then at i (i + 1) j h (omega arith)))

pub over-down : (i end : ℕ) (F : ℕ → ℕ) (l : List ℕ) → i < end → end ≤ length l
    → {b m : List ℕ} {v : ℕ} → b ≡ over (within (i + 1) end) F l → v ≡ F i → m ≡ set b i v → m ≡ over (within i end) F l
over-down i end F l h r eb ev em =
    em ∙ rw (ev, eb)
    (over-step _ _ F l i (omega arith) (λ j. within-then i (i + 1) end j (omega arith) (omega arith) ∙ or_comm (within i (i + 1) j) (within (i + 1) end j)))

-- ---- bytes of s from byte e on, pasted over those of l from lo to hi: ys is what the part of l holds then

pub over-part : (lo hi e : ℕ) (s l : List ℕ) {n : ℕ} {ys : List ℕ} → lo ≤ hi → hi ≤ length l → n ≡ hi - lo → e + n ≤ length s → ys ≡ take n (drop e s)
    → take lo l ++ (ys ++ drop (hi - lo) (drop lo l)) ≡ over (within lo hi) (λ j. get_or s (e + (j - lo)) 0) l
over-part lo hi e s l {n} {ys} h r en q ey =
    over-ext (within lo hi) _ l m (omega (arith, length-append (take lo l) rest, length-append ys after, length-drop (hi - lo) (drop lo l), tail, head, own)) (λ j b. at j (place lo hi j))
  where
    after : List ℕ
    after = drop (hi - lo) (drop lo l)

    rest : List ℕ
    rest = ys ++ after

    m : List ℕ
    m = take lo l ++ rest

    head : length (take lo l) ≡ lo
    head = length-take-le lo l (omega arith)

    tail : length (drop lo l) ≡ length l - lo
    tail = length-drop lo l

    own : length ys ≡ hi - lo
    own = ap length ey ∙ length-take-le n (drop e s) (omega (arith, length-drop e s)) ∙ en

    at : (j : ℕ) → Place lo hi j → get_or m j 0 ≡ (if within lo hi j then get_or s (e + (j - lo)) 0 else get_or l j 0)
    at j (before u) = rw (within_low lo hi j u) (get_or_append_left (take lo l) rest 0 j (omega (arith, head)) ∙ get_or-take lo l j 0 u)
    at j (inside u v) =
        rw (within-yes lo hi j u v)
        (get_or-append_right (take lo l) rest lo j 0 head u
        ∙ get_or_append_left ys after 0 (j - lo) (omega (arith, own))
        ∙ ap (λ (x : List ℕ). get_or x (j - lo) 0) ey
        ∙ get_or-take n (drop e s) (j - lo) 0 (omega arith)
        ∙ get_or-drop e s (j - lo) 0)
    at j (past u v) =
        rw (within-high lo hi j v)
        (get_or-append_right (take lo l) rest lo j 0 head u
        ∙ get_or-append_right ys after (hi - lo) (j - lo) 0 own (omega arith)
        ∙ get_or-drop (hi - lo) (drop lo l) (j - lo - (hi - lo)) 0
        ∙ get_or-drop lo l (hi - lo + (j - lo - (hi - lo))) 0
        ∙ ap (λ (k : ℕ). get_or l k 0) (omega arith))

-- ---- the one place where bytes meet dots: the dots from lo to hi are those of s from dot e on

pub over-change : (lo hi e : ℕ) (s l : List ℕ) → hi * 4 ≤ length l
    → over (within (lo * 4) (hi * 4)) (λ j. get_or s (e * 4 + (j - lo * 4)) 0) l ≡ change (within lo hi) (λ i _. dot_at s (e + (i - lo))) l
over-change lo hi e s l r =
    change-ext (within lo hi) _ l m (length_over p F l) (λ i c. at i (place lo hi i)) (λ i c. kept i (λ j u v. within-high (lo * 4) (hi * 4) j (omega arith)))
  where
    p : ℕ → Bool
    p = within (lo * 4) (hi * 4)

    F : ℕ → ℕ
    F j = get_or s (e * 4 + (j - lo * 4)) 0

    m : List ℕ
    m = over p F l

    kept : (i : ℕ) → ((j : ℕ) → i * 4 ≤ j → j < i * 4 + 4 → p j ≡ false) → dot_at m i ≡ dot_at l i
    kept i off = dot-of m i (dot_at l i) (λ j k b q. over-kept p F l j (off j (omega arith) (omega arith)) ∙ byte_of l i j k b q)

    at : (i : ℕ) → Place lo hi i → dot_at m i ≡ (if within lo hi i then dot_at s (e + (i - lo)) else dot_at l i)
    at i (before u) = rw (within_low lo hi i u) (kept i (λ j v w. within_low (lo * 4) (hi * 4) j (omega arith)))
    at i (past u v) = rw (within-high lo hi i v) (kept i (λ j w x. within-high (lo * 4) (hi * 4) j (omega arith)))
    at i (inside u v) =
        rw (within-yes lo hi i u v)
        (dot-of m i (dot_at s (e + (i - lo)))
        (λ j k b q.
        over-picked p F l j (within-yes (lo * 4) (hi * 4) j (omega arith) (omega arith)) (omega arith)
        ∙ byte_of s (e + (i - lo)) (e * 4 + (j - lo * 4)) k b (omega arith)))
