-- Laws of dots. Assumes nothing.
use mathlib.Core.Path.{◌≡◌, refl, sym, ap, ◌∙◌}
use mathlib.Core.Logic.{◌≢◌, ◌⊎◌, inl, inr, ⊎_elim}
use mathlib.Core.List.{List}
use mathlib.Core.Bool.{Bool, true, false, not, ◌||◌, or-true, or-false, or_comm, and-false, true≢false}
use Prim.Native.Nat.{ℕ, zero, suc, ◌+◌, ◌*◌, ◌/◌, ◌%◌, ◌≤◌, ◌<◌}
use native.Mathlib.Nat.{le_of_suc-le-suc, not-suc-le-zero, add-zero}
use native.Mathlib.Omega.{arith}
use lib.ListN.{length, get_or, set, length-set, get_or-eq_default}
use lib.Seq.{get_or-set_same, get_or-set_other, ext_get_or}
use lib.Dec.{ltb, eqb}
use borrow.Author.Tests.{lt-ltb, le-ltb, le-leb, lt-leb, eq-eqb, ne_eqb, ltb-true, ltb-false, eqb-true, eqb-false}
use Rattle.std.specs.Prelude.{if◌then◌else◌}
use Rattle.colour.specs.declared.RGBA.{RGBA}
use Rattle.colour.specs.Colour.{rgba, blended, multiplied}
use Rattle.colour.proofs.Laws.{rgba-eq, blended-none, blended-full, multiplied-none}
use Rattle.dots.specs.Dots.{dot_at, set_dot, tab, chan, paint, change, within, drawn}
use Rattle.dots.specs.Tables.{Whole, needs_tables, covers}

-- a number is below another, or not
by-test : (a b : ℕ) (t : Bool) → ltb a b ≡ t → (a < b) ⊎ (b ≤ a)
by-test a b true e = inl (ltb-true a b e)
by-test a b false e = inr (ltb-false a b e)

pub below : (a b : ℕ) → (a < b) ⊎ (b ≤ a)
below a b = by-test a b (ltb a b) refl

-- ---- bytes and dots

pub length-tab : (n : ℕ) (f : ℕ → ℕ) → length (tab n f) ≡ n
unfolding tab
length-tab zero f = refl
length-tab (suc n) f = ap suc (length-tab n (λ k. f (suc k)))

pub get_or-tab : (n : ℕ) (f : ℕ → ℕ) (i d : ℕ) → i < n → get_or (tab n f) i d ≡ f i
unfolding tab
get_or-tab zero f i d h = absurd (not-suc-le-zero h)
get_or-tab (suc n) f zero d h = refl
get_or-tab (suc n) f (suc i) d h = get_or-tab n (λ k. f (suc k)) i d (le_of_suc-le-suc h)

pub tab-ext : (n : ℕ) (f : ℕ → ℕ) (l : List ℕ) → length l ≡ n → ((i : ℕ) → i < n → get_or l i 0 ≡ f i) → l ≡ tab n f
tab-ext n f l e h = ext_get_or 0 l (tab n f) (e ∙ sym (length-tab n f)) (λ i b. h i (omega (arith, e)) ∙ sym (get_or-tab n f i 0 (omega (arith, e))))

-- what holds of each of a dot's four bytes
pub each-byte : (P : ℕ → Type 0) → P 0 → P 1 → P 2 → P 3 → (k : ℕ) → k < 4 → P k
each-byte P r g b a zero h = r
each-byte P r g b a (suc zero) h = g
each-byte P r g b a (suc (suc zero)) h = b
each-byte P r g b a (suc (suc (suc zero))) h = a
each-byte P r g b a (suc (suc (suc (suc k)))) h = let e : ⊥ = omega arith in absurd e

-- byte j of a buffer is byte k of its dot i
pub byte_of : (l : List ℕ) (i j k : ℕ) → k < 4 → j ≡ i * 4 + k → get_or l j 0 ≡ chan (dot_at l i) k
unfolding chan
byte_of l i j k h e = ap (λ (n : ℕ). get_or l n 0) e ∙ each-byte (λ k. get_or l (i * 4 + k) 0 ≡ chan (dot_at l i) k) (rw add-zero) refl refl refl k h

-- a dot is known by its four bytes
pub dot-of : (l : List ℕ) (i : ℕ) (d : RGBA) → ((j k : ℕ) → k < 4 → j ≡ i * 4 + k → get_or l j 0 ≡ chan d k) → dot_at l i ≡ d
unfolding chan
dot-of l i d h =
    rgba-eq (h (i * 4) 0 (omega arith) (omega arith)) (h (i * 4 + 1) 1 (omega arith) (omega arith)) (h (i * 4 + 2) 2 (omega arith) (omega arith)) (h (i * 4 + 3) 3 (omega arith) (omega arith))

-- a dot is known by the word that its bytes make
pub word-dot : (c : RGBA) → c.r ≤ 255 → c.g ≤ 255 → c.b ≤ 255 → c.a ≤ 255
    → let w = c.r + c.g * 256 + c.b * 65536 + c.a * 16777216 in rgba (w % 256) (w / 256 % 256) (w / 65536 % 256) (w / 16777216) ≡ c
word-dot c r g b a = rgba-eq (omega arith) (omega arith) (omega arith) (omega arith)

-- ---- a dot written

pub length-set_dot : (l : List ℕ) (i : ℕ) (c : RGBA) → length (set_dot l i c) ≡ length l
length-set_dot l i c = simp length-set

pub dot-set-same : (l : List ℕ) (i : ℕ) (c : RGBA) → i * 4 + 4 ≤ length l → dot_at (set_dot l i c) i ≡ c
dot-set-same l i c h =
    let n = i * 4 in
    let b0 : n < length l = omega arith in
    let e01 : n ≢ n + 1 = λ e. omega arith in
    let e02 : n ≢ n + 2 = λ e. omega arith in
    let e03 : n ≢ n + 3 = λ e. omega arith in
    let e12 : n + 1 ≢ n + 2 = λ e. omega arith in
    let e13 : n + 1 ≢ n + 3 = λ e. omega arith in
    let e23 : n + 2 ≢ n + 3 = λ e. omega arith in
    let l1 = set l n c.r in
    let l2 = set l1 (n + 1) c.g in
    let l3 = set l2 (n + 2) c.b in
    rgba-eq
    (simp (get_or-set_other, get_or-set_same))
    (simp get_or-set_other (get_or-set_same l1 (n + 1) c.g 0 (simp length-set (omega arith))))
    (simp get_or-set_other (get_or-set_same l2 (n + 2) c.b 0 (simp length-set (omega arith))))
    (get_or-set_same l3 (n + 3) c.a 0 (simp length-set (omega arith)))

pub dot-set-other : (l : List ℕ) (i : ℕ) (c : RGBA) (j : ℕ) → j ≢ i → dot_at (set_dot l i c) j ≡ dot_at l j
dot-set-other l i c j h = dot-of (set_dot l i c) j (dot_at l j) (λ n k b e. other n (λ z. h (omega arith)) ∙ byte_of l j n k b e)
  where
    other : (n : ℕ) → n / 4 ≢ i → get_or (set_dot l i c) n 0 ≡ get_or l n 0
    other n h =
        let n0 : n ≢ i * 4 = λ e. h (omega arith) in
        let n1 : n ≢ i * 4 + 1 = λ e. h (omega arith) in
        let n2 : n ≢ i * 4 + 2 = λ e. h (omega arith) in
        let n3 : n ≢ i * 4 + 3 = λ e. h (omega arith) in
        simp get_or-set_other

-- ---- paint

pub length-paint : (F : ℕ → RGBA) (l : List ℕ) → length (paint F l) ≡ length l
unfolding paint
length-paint F l = length-tab (length l) _

pub paint-dot : (F : ℕ → RGBA) (l : List ℕ) (i : ℕ) → i * 4 + 4 ≤ length l → dot_at (paint F l) i ≡ F i
unfolding paint
paint-dot F l i h =
    dot-of (paint F l) i (F i)
    (λ j k b e.
    get_or-tab (length l) _ j 0 (omega arith)
    ∙ rw (lt-ltb (j / 4) (length l / 4) (omega arith))
    (ap (λ (n : ℕ). chan (F n) (j % 4)) (omega arith) ∙ ap (λ (n : ℕ). chan (F i) n) (omega arith)))

pub paint-past : (F : ℕ → RGBA) (l : List ℕ) (i : ℕ) → length l < i * 4 + 4 → dot_at (paint F l) i ≡ dot_at l i
unfolding paint
paint-past F l i h =
    dot-of (paint F l) i (dot_at l i)
    (λ j k b e.
    ⊎_elim
    (λ w. get_or-tab (length l) _ j 0 w ∙ rw (le-ltb (j / 4) (length l / 4) (omega arith)))
    (λ w. get_or-eq_default (paint F l) 0 {n = j} (omega (arith, length-paint F l)) ∙ sym (get_or-eq_default l 0 w))
    (below j (length l))
    ∙ byte_of l i j k b e)

-- a buffer is known by its length, its dots, and what lies past them
pub paint-ext : (F : ℕ → RGBA) (l m : List ℕ) → length m ≡ length l
    → ((i : ℕ) → i * 4 + 4 ≤ length l → dot_at m i ≡ F i) → ((i : ℕ) → length l < i * 4 + 4 → dot_at m i ≡ dot_at l i) → m ≡ paint F l
unfolding paint
paint-ext F l m e h k =
    tab-ext (length l) _ m e (λ j b. byte m j ∙ at j (below (j / 4) (length l / 4)))
  where
    byte : (n : List ℕ) (j : ℕ) → get_or n j 0 ≡ chan (dot_at n (j / 4)) (j % 4)
    byte n j = byte_of n (j / 4) j (j % 4) (omega arith) (omega arith)

    at : (j : ℕ) → (j / 4 < length l / 4) ⊎ (length l / 4 ≤ j / 4)
        → chan (dot_at m (j / 4)) (j % 4) ≡ (if ltb (j / 4) (length l / 4) then chan (F (j / 4)) (j % 4) else get_or l j 0)
    at j (inl w) = rw (lt-ltb (j / 4) (length l / 4) w, h (j / 4) (omega arith))
    at j (inr w) = rw (le-ltb (j / 4) (length l / 4) w, k (j / 4) (omega arith)) (sym (byte l j))

-- ---- change

module _ (p : ℕ → Bool) (g : ℕ → RGBA → RGBA) (l : List ℕ) where
  pub length-change : length (change p g l) ≡ length l
  unfolding change
  length-change = length-paint _ l

  -- a dot that lies in the buffer, one that does not, one that is picked, and one that is not
  pub change-dot : (i : ℕ) → i * 4 + 4 ≤ length l → dot_at (change p g l) i ≡ (if p i then g i (dot_at l i) else dot_at l i)
  unfolding change
  change-dot i h = paint-dot _ l i h

  pub change-past : (i : ℕ) → length l < i * 4 + 4 → dot_at (change p g l) i ≡ dot_at l i
  unfolding change
  change-past i h = paint-past _ l i h

  pub change-picked : (i : ℕ) → p i ≡ true → i * 4 + 4 ≤ length l → dot_at (change p g l) i ≡ g i (dot_at l i)
  change-picked i e h = change-dot i h ∙ rw e

  pub change-kept : (i : ℕ) → p i ≡ false → dot_at (change p g l) i ≡ dot_at l i
  change-kept i e = ⊎_elim (λ w. change-past i w) (λ w. change-dot i w ∙ rw e) (below (length l) (i * 4 + 4))

  -- a buffer as long whose dots are so is that change
  pub change-ext : (m : List ℕ) → length m ≡ length l
      → ((i : ℕ) → i * 4 + 4 ≤ length l → dot_at m i ≡ (if p i then g i (dot_at l i) else dot_at l i))
      → ((i : ℕ) → length l < i * 4 + 4 → dot_at m i ≡ dot_at l i) → m ≡ change p g l
  unfolding change
  change-ext m e h k = paint-ext _ l m e h k

  -- nothing changes where g leaves each picked dot as it is, or no dot is picked
  pub change-idle : ((i : ℕ) → p i ≡ true → dot_at l i ≡ g i (dot_at l i)) → l ≡ change p g l
  change-idle h = change-ext l refl (λ i b. at i (p i) refl) (λ i b. refl)
    where
      at : (i : ℕ) (t : Bool) → p i ≡ t → dot_at l i ≡ (if t then g i (dot_at l i) else dot_at l i)
      at i true e = h i e
      at i false e = refl

  pub change-none : ((i : ℕ) → p i ≡ false) → l ≡ change p g l
  change-none h = change-idle (λ i e. absurd (true≢false (sym e ∙ h i)))

-- ---- changes compared, and one after another

-- two changes that do the same to every dot
pub change-same : (p q : ℕ → Bool) (f g : ℕ → RGBA → RGBA) (l : List ℕ)
    → ((i : ℕ) → i * 4 + 4 ≤ length l → (if p i then f i (dot_at l i) else dot_at l i) ≡ (if q i then g i (dot_at l i) else dot_at l i)) → change p f l ≡ change q g l
change-same p q f g l h =
    change-ext q g l (change p f l) (length-change p f l) (λ i b. change-dot p f l i b ∙ h i b) (λ i b. change-past p f l i b)

pub change-where : (p q : ℕ → Bool) (g : ℕ → RGBA → RGBA) (l : List ℕ) → ((i : ℕ) → p i ≡ q i) → change p g l ≡ change q g l
change-where p q g l h = change-same p q g g l (λ i b. rw (h i))

pub change-by : (p : ℕ → Bool) (f g : ℕ → RGBA → RGBA) (l : List ℕ) → ((i : ℕ) → p i ≡ true → f i (dot_at l i) ≡ g i (dot_at l i)) → change p f l ≡ change p g l
change-by p f g l h = change-same p p f g l (λ i b. at i (p i) refl)
  where
    at : (i : ℕ) (t : Bool) → p i ≡ t → (if t then f i (dot_at l i) else dot_at l i) ≡ (if t then g i (dot_at l i) else dot_at l i)
    at i true e = h i e
    at i false e = refl

-- first g on the dots of p, then f on those of q
pub change-then : (p q : ℕ → Bool) (g f : ℕ → RGBA → RGBA) (l : List ℕ)
    → change q f (change p g l) ≡ change (λ i. p i || q i) (λ i s. if q i then f i (if p i then g i s else s) else g i s) l
change-then p q g f l =
    let n = length-change p g l in
    change-ext _ _ l (change q f (change p g l)) (length-change q f (change p g l) ∙ n)
    (λ i b. change-dot q f (change p g l) i (rw n b) ∙ rw (change-dot p g l i b) (at i (p i) (q i)))
    (λ i b. change-past q f (change p g l) i (rw n b) ∙ change-past p g l i b)
  where
    at : (i : ℕ) (t u : Bool)
        → (if u then f i (if t then g i (dot_at l i) else dot_at l i) else if t then g i (dot_at l i) else dot_at l i)
        ≡ (if t || u then (if u then f i (if t then g i (dot_at l i) else dot_at l i) else g i (dot_at l i)) else dot_at l i)
    at i true true = refl
    at i true false = refl
    at i false true = refl
    at i false false = refl

-- first g and then f on the same dots
pub change-over : (p : ℕ → Bool) (g f : ℕ → RGBA → RGBA) (l : List ℕ) → change p f (change p g l) ≡ change p (λ i s. f i (g i s)) l
change-over p g f l = change-then p p g f l ∙ change-same _ p _ _ l (λ i b. at i (p i))
  where
    at : (i : ℕ) (t : Bool)
        → (if t || t then (if t then f i (if t then g i (dot_at l i) else dot_at l i) else g i (dot_at l i)) else dot_at l i) ≡ (if t then f i (g i (dot_at l i)) else dot_at l i)
    at i true = refl
    at i false = refl

-- the same g on the dots of p and then on others, those of q
pub change-more : (p q r : ℕ → Bool) (g : ℕ → RGBA → RGBA) (l : List ℕ)
    → ((i : ℕ) → r i ≡ (p i || q i)) → ((i : ℕ) → q i ≡ true → p i ≡ false) → change q g (change p g l) ≡ change r g l
change-more p q r g l h apart =
    change-then p q g g l ∙ change-same _ r _ g l (λ i b. rw (h i) (at i (p i) (q i) refl refl))
  where
    at : (i : ℕ) (t u : Bool) → p i ≡ t → q i ≡ u
        → (if t || u then (if u then g i (if t then g i (dot_at l i) else dot_at l i) else g i (dot_at l i)) else dot_at l i)
        ≡ (if t || u then g i (dot_at l i) else dot_at l i)
    at i true true e f = absurd (true≢false (sym e ∙ apart i f))
    at i true false e f = refl
    at i false true e f = refl
    at i false false e f = refl

-- one dot more: dot i becomes what g makes of it
pub change-step : (p q : ℕ → Bool) (g : ℕ → RGBA → RGBA) (l : List ℕ) (i : ℕ) → i * 4 + 4 ≤ length l
    → ((j : ℕ) → q j ≡ (p j || eqb j i)) → set_dot (change p g l) i (g i (dot_at l i)) ≡ change q g l
change-step p q g l i b h =
    let m = change p g l in
    let n = length-change p g l in
    let d = g i (dot_at l i) in
    change-ext q g l (set_dot m i d) (length-set_dot m i d ∙ n)
    (λ j c. rw (h j) (at j (eqb j i) refl c))
    (λ j c. dot-set-other m i d j (λ e. omega arith) ∙ change-past p g l j c)
  where
    at : (j : ℕ) (t : Bool) → eqb j i ≡ t → j * 4 + 4 ≤ length l
        → dot_at (set_dot (change p g l) i (g i (dot_at l i))) j ≡ (if p j || t then g j (dot_at l j) else dot_at l j)
    at j true e c =
        let ji : j ≡ i = eqb-true j i e in
        rw (or-true, ji) (dot-set-same (change p g l) i _ (rw length-change b))
    at j false e c = rw or-false (dot-set-other (change p g l) i _ j (eqb-false j i e) ∙ change-dot p g l j c)

-- ---- runs of dots

-- a dot lies before a run, in it or past it
pub data Place (lo hi i : ℕ) : Type 0 where
  before : i < lo → Place lo hi i
  inside : lo ≤ i → i < hi → Place lo hi i
  past : lo ≤ i → hi ≤ i → Place lo hi i

pub place : (lo hi i : ℕ) → Place lo hi i
place lo hi i = ⊎_elim before (λ h. ⊎_elim (inside h) (past h) (below i hi)) (below i lo)

pub within-yes : (lo hi i : ℕ) → lo ≤ i → i < hi → within lo hi i ≡ true
unfolding within
within-yes lo hi i h k = rw (le-leb lo i h, lt-ltb i hi k)

pub within_low : (lo hi i : ℕ) → i < lo → within lo hi i ≡ false
unfolding within
within_low lo hi i h = rw (lt-leb lo i h)

pub within-high : (lo hi i : ℕ) → hi ≤ i → within lo hi i ≡ false
unfolding within
within-high lo hi i h = rw (le-ltb i hi h, and-false)

pub within-true : (lo hi i : ℕ) → within lo hi i ≡ true → (lo ≤ i) × (i < hi)
within-true lo hi i e = by (place lo hi i)
  where
    by : Place lo hi i → (lo ≤ i) × (i < hi)
    by (before h) = absurd (true≢false (sym e ∙ within_low lo hi i h))
    by (inside h k) = (h, k)
    by (past h k) = absurd (true≢false (sym e ∙ within-high lo hi i k))

-- two runs that follow each other
pub within-then : (a b c i : ℕ) → a ≤ b → b ≤ c → within a c i ≡ (within a b i || within b c i)
within-then a b c i h k = by (place a b i) (place b c i)
  where
    by : Place a b i → Place b c i → within a c i ≡ (within a b i || within b c i)
    by (before u) q = rw (within_low a c i u, within_low a b i u, within_low b c i (omega arith))
    by (inside u v) q = rw (within-yes a c i u (omega arith), within-yes a b i u v)
    by (past u v) (before x) = absurd (omega arith)
    by (past u v) (inside x y) = rw (within-yes a c i u y, within-high a b i v, within-yes b c i x y)
    by (past u v) (past x y) = rw (within-high a c i y, within-high a b i v, within-high b c i y)

-- the run of the one dot i
pub within-one : (i j : ℕ) → within i (i + 1) j ≡ eqb j i
within-one i j = by (place i (i + 1) j)
  where
    by : Place i (i + 1) j → within i (i + 1) j ≡ eqb j i
    by (before u) = rw (within_low i (i + 1) j u, ne_eqb j i (λ e. omega arith))
    by (inside u v) = rw (within-yes i (i + 1) j u v, eq-eqb j i (omega arith))
    by (past u v) = rw (within-high i (i + 1) j v, ne_eqb j i (λ e. omega arith))

pub run_none : (at : ℕ) (g : ℕ → RGBA → RGBA) (l : List ℕ) → l ≡ change (within at at) g l
run_none at g l = change-none (within at at) g l (λ i. none i (place at at i))
  where
    none : (i : ℕ) → Place at at i → within at at i ≡ false
    none i (before h) = within_low at at i h
    none i (inside h k) = absurd (omega arith)
    none i (past h k) = within-high at at i k

pub run-then : (a b c : ℕ) (g : ℕ → RGBA → RGBA) (l : List ℕ) → a ≤ b → b ≤ c → change (within b c) g (change (within a b) g l) ≡ change (within a c) g l
run-then a b c g l h k =
    change-more _ _ _ g l (λ i. within-then a b c i h k) (λ i e. let w = within-true b c i e in within-high a b i w.0)

pub run_step : (at i : ℕ) (g : ℕ → RGBA → RGBA) (l : List ℕ) → at ≤ i → i * 4 + 4 ≤ length l
    → set_dot (change (within at i) g l) i (g i (dot_at l i)) ≡ change (within at (i + 1)) g l
run_step at i g l h b = change-step _ _ g l i b (λ j. within-then at i (i + 1) j h (omega arith) ∙ rw within-one)

-- ---- a turn of a loop over a run: b is the buffer at the loop's head, m the buffer after the turn

-- a turn that does the dots from i to j, by f, which does to them what g says
pub run_more : (at i j : ℕ) (f g : ℕ → RGBA → RGBA) (l : List ℕ) → at ≤ i → i ≤ j → ((k : ℕ) → i ≤ k → k < j → (d : RGBA) → f k d ≡ g k d)
    → {b m : List ℕ} → b ≡ change (within at i) g l → m ≡ change (within i j) f b → m ≡ change (within at j) g l
run_more at i j f g l h k same eb em =
    em ∙ rw eb (change-by _ f g _ (λ n t. let w = within-true i j n t in same n w.0 w.1 _) ∙ run-then at i j g l h k)

-- the same from the last dots to the first: a turn that does those from lo to i
pub run-back : (lo i hi : ℕ) (f g : ℕ → RGBA → RGBA) (l : List ℕ) → lo ≤ i → i ≤ hi → ((k : ℕ) → lo ≤ k → k < i → (d : RGBA) → f k d ≡ g k d)
    → {b m : List ℕ} → b ≡ change (within i hi) g l → m ≡ change (within lo i) f b → m ≡ change (within lo hi) g l
run-back lo i hi f g l h k same {b} eb em =
    em ∙ change-by _ f g b (λ n t. let w = within-true lo i n t in same n w.0 w.1 _)
    ∙ rw eb
    (change-more _ _ _ g l (λ j. within-then lo i hi j h k ∙ or_comm (within lo i j) (within i hi j))
    (λ j e. let w = within-true lo i j e in within_low i hi j w.1))

pub run_on : (at i j : ℕ) (g : ℕ → RGBA → RGBA) (l : List ℕ) → at ≤ i → i ≤ j
    → {b m : List ℕ} → b ≡ change (within at i) g l → m ≡ change (within i j) g b → m ≡ change (within at j) g l
run_on at i j g l h k = run_more at i j g g l h k (λ n u v d. refl)

-- a turn that writes d as dot i
pub run-turn : (at i : ℕ) (g : ℕ → RGBA → RGBA) (l : List ℕ) → at ≤ i → i * 4 + 4 ≤ length l
    → {b m : List ℕ} {d : RGBA} → b ≡ change (within at i) g l → d ≡ g i (dot_at l i) → m ≡ set_dot b i d → m ≡ change (within at (i + 1)) g l
run-turn at i g l h r eb ed em = em ∙ rw (ed, eb) (run_step at i g l h r)

-- the dot that a turn reads at its own place is as it was
pub run-old : (at i : ℕ) (g : ℕ → RGBA → RGBA) (l : List ℕ) {b : List ℕ} {s : RGBA} → b ≡ change (within at i) g l → s ≡ dot_at b i → s ≡ dot_at l i
run-old at i g l eb es = es ∙ rw eb (change-kept _ g l i (within-high at i i (omega arith)))

-- a turn that reads dot i and writes what g makes of it
pub run-dot : (at i : ℕ) (g : RGBA → RGBA) (l : List ℕ) → at ≤ i → i * 4 + 4 ≤ length l → {b m : List ℕ} {s d : RGBA}
    → b ≡ change (within at i) (λ _ s. g s) l → s ≡ dot_at b i → d ≡ g s → m ≡ set_dot b i d → m ≡ change (within at (i + 1)) (λ _ s. g s) l
run-dot at i g l h r eb es ed em = run-turn at i _ l h r eb (ed ∙ ap g (run-old at i _ l eb es)) em

-- ---- what drawing comes to, by mode and alpha

pub drawn-none : (t : Bool) (c s : RGBA) → c.a ≡ 0 → s ≡ drawn t c s
unfolding drawn
drawn-none true c s e = multiplied-none c s e
drawn-none false c s e = blended-none c s e

pub drawn-full : {t : Bool} (c s : RGBA) → t ≡ false → c.a ≡ 255 → c ≡ drawn t c s
unfolding drawn
drawn-full c s f e = rw f (rgba-eq refl refl refl e ∙ blended-full c s e)

pub drawn-blended : {t : Bool} (c s : RGBA) → t ≡ false → blended c s ≡ drawn t c s
unfolding drawn
drawn-blended c s f = rw f

pub drawn-multiplied : {t : Bool} (c s : RGBA) → t ≡ true → multiplied c s ≡ drawn t c s
unfolding drawn
drawn-multiplied c s f = rw f

pub tables-multiply : (t : Bool) (c : RGBA) → needs_tables t c ≡ true → t ≡ true
unfolding needs_tables
tables-multiply true c e = refl
tables-multiply false c e = absurd (true≢false (sym e))

pub no-tables : (t : Bool) (c : RGBA) → 0 < c.a → needs_tables t c ≡ false → Whole t c
unfolding needs_tables
no-tables true c h e = record { some = h; full = λ f. go (eqb c.a 255) refl e }
  where
    go : (b : Bool) → eqb c.a 255 ≡ b → not b ≡ false → c.a ≡ 255
    go true q z = eqb-true _ _ q
    go false q z = absurd (true≢false z)
no-tables false c h e = record { some = h; full = λ f. absurd (true≢false (sym f)) }

pub covers-full : (t : Bool) (c s : RGBA) → covers t c ≡ true → c ≡ drawn t c s
unfolding covers
covers-full true c s e = absurd (true≢false (sym e))
covers-full false c s e = drawn-full c s refl (eqb-true _ _ e)
