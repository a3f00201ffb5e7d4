-- Laws of the records of a list of bytes: what is known of each answer of `record_at`, and that the records from a position are the one that stands there and those past it. Assumes nothing.
use Prim.Native.Nat.{ℕ, zero, suc, ◌+◌, ◌-◌, ◌≤◌, ◌<◌}
use mathlib.Core.Path.{◌≡◌, refl, ap, ◌∙◌}
use mathlib.Core.List.{List}
use mathlib.Core.Bool.{Bool, true, false, ◌||◌}
use native.Mathlib.Omega.{arith}
use borrow.Author.Tests.{le-ltb, lt-ltb, le-leb, lt-leb, leb-true, leb-false, ltb-false}
use lib.ListN.{length}
use lib.Dec.{ltb, leb}
use Rattle.std.specs.Prelude.{if◌then◌else◌}
use Rattle.job.specs.declared.records.Rec.{Rec}
use Rattle.job.specs.declared.records.Rec.TheVariants.{Record, Bad, End}
use Rattle.job.specs.Records.{le16, le32, record_at, Records, ended, broken, rec, record_then, up_to, records}

-- ---- from tests to what stands at a position

pub is-end : (s : List ℕ) (at : ℕ) → length s ≤ at → End ≡ record_at s at
unfolding record_at
is-end s at h = rw (le-leb _ _ h)

module _ (s : List ℕ) (at : ℕ) where
  pub is-short : at < length s → length s < at + 6 → Bad ≡ record_at s at
  unfolding record_at
  is-short h g = rw (lt-leb (length s) at h, lt-ltb (length s) (at + 6) g)

  module _ {n : ℕ} (h : at + 6 ≤ length s) (e : n ≡ le32 s at) where
    pub is-small : n < 2 → Bad ≡ record_at s at
    unfolding record_at
    is-small g = rw (lt-leb (length s) at (omega arith), le-ltb (length s) (at + 6) h, lt-ltb (le32 s at) 2 (omega arith))

    pub is_cut : 2 ≤ n → length s < at + 4 + n → Bad ≡ record_at s at
    unfolding record_at
    is_cut f g = rw (lt-leb (length s) at (omega arith), le-ltb (length s) (at + 6) h, le-ltb (le32 s at) 2 (omega arith), lt-ltb (length s) (at + 4 + le32 s at) (omega arith))

    pub is-record : {k : ℕ} → k ≡ le16 s (at + 4) → 2 ≤ n → at + 4 + n ≤ length s → Record k (at + 6) (n - 2) (at + 4 + n) ≡ record_at s at
    unfolding record_at
    is-record d f g = rw (lt-leb (length s) at (omega arith), le-ltb (length s) (at + 6) h, le-ltb (le32 s at) 2 (omega arith), le-ltb (length s) (at + 4 + le32 s at) (omega arith), e, d)

-- ---- what is known where each was found

pub data Seen (s : List ℕ) (at : ℕ) : Rec → Type 0 where
  see-end : length s ≤ at → Seen s at End
  see-bad : at < length s → Seen s at Bad
  see-rec : {k st n nx : ℕ} → st ≡ at + 6 → st + n ≡ nx → nx ≤ length s → Seen s at (Record k st n nx)

seen_by : (s : List ℕ) (at : ℕ) (a b c d : Bool) → leb (length s) at ≡ a → ltb (length s) (at + 6) ≡ b → ltb (le32 s at) 2 ≡ c → ltb (length s) (at + 4 + le32 s at) ≡ d
    → Seen s at (if a then End else if b || c || d then Bad else Record (le16 s (at + 4)) (at + 6) (le32 s at - 2) (at + 4 + le32 s at))
seen_by s at true b c d e f g h = see-end (omega (arith, leb-true))
seen_by s at false true c d e f g h = see-bad (omega (arith, leb-false))
seen_by s at false false true d e f g h = see-bad (omega (arith, leb-false))
seen_by s at false false false true e f g h = see-bad (omega (arith, leb-false))
seen_by s at false false false false e f g h = see-rec {n = le32 s at - 2} {nx = at + 4 + le32 s at} refl (omega (arith, ltb-false)) (omega (arith, ltb-false))

pub seen : (s : List ℕ) (at : ℕ) → Seen s at (record_at s at)
unfolding record_at
seen s at = seen_by s at _ _ _ _ refl refl refl refl

-- ---- the records from a position on

then_same : {s : List ℕ} {at : ℕ} {r : Rec} → Seen s at r → (f g : ℕ → Records) → ((nx : ℕ) → at + 6 ≤ nx → nx ≤ length s → f nx ≡ g nx) → record_then f r ≡ record_then g r
unfolding record_then
then_same (see-end h) f g e = refl
then_same (see-bad h) f g e = refl
then_same (see-rec {k} {st} {n} {nx} h h' b) f g e = ap (rec k st n) (e nx (omega arith) b)

stable : (n m : ℕ) (s : List ℕ) (at : ℕ) → length s - at ≤ n → length s - at ≤ m → up_to n s at ≡ up_to m s at
unfolding up_to record_then
stable zero zero s at h g = refl
stable zero (suc m) s at h g = rw (← is-end s at (omega arith)) refl
stable (suc n) zero s at h g = rw (← is-end s at (omega arith)) refl
stable (suc n) (suc m) s at h g = then_same (seen s at) (up_to n s) (up_to m s) (λ nx a b. stable n m s nx (omega arith) (omega arith))

pub records-step : (s : List ℕ) (at : ℕ) → records s at ≡ record_then (records s) (record_at s at)
unfolding records up_to
records-step s at =
    stable (length s - at) (suc (length s - at)) s at (omega arith) (omega arith)
    ∙ then_same (seen s at) (up_to (length s - at) s) (λ nx. up_to (length s - nx) s nx) (λ nx a b. stable (length s - at) (length s - nx) s nx (omega arith) (omega arith))

-- ---- what follows of each answer, for a loop that goes from record to record

pub record Found (s : List ℕ) (at st n nx : ℕ) : Type 0 where
  pub start : st ≡ at + 6
  pub whole : st + n ≡ nx
  pub fits : nx ≤ length s

found_of : {s : List ℕ} {at k st n nx : ℕ} → Seen s at (Record k st n nx) → Found s at st n nx
found_of (see-rec a b c) = record { start = a; whole = b; fits = c }

module _ (s : List ℕ) (at : ℕ) where
  pub found : {k st n nx : ℕ} → Record k st n nx ≡ record_at s at → Found s at st n nx
  found e = found_of (rw (← e) at (seen s at))

  pub records-record : {k st n nx : ℕ} → Record k st n nx ≡ record_at s at → records s at ≡ rec k st n (records s nx)
  unfolding record_then
  records-record e = records-step s at ∙ rw (← e) refl

  pub records-end : End ≡ record_at s at → records s at ≡ ended
  unfolding record_then
  records-end e = records-step s at ∙ rw (← e) refl

  pub records-bad : Bad ≡ record_at s at → records s at ≡ broken
  unfolding record_then
  records-bad e = records-step s at ∙ rw (← e) refl

-- ---- every body lies within n bytes

pub data Inside (n : ℕ) : Records → Type 0 where
  in-ended : Inside n ended
  in-broken : Inside n broken
  in-rec : {k st size : ℕ} {rest : Records} → st + size ≤ n → Inside n rest → Inside n (rec k st size rest)

inside-then : {s : List ℕ} {at : ℕ} {r : Rec} (f : ℕ → Records) → Seen s at r → ((nx : ℕ) → Inside (length s) (f nx)) → Inside (length s) (record_then f r)
unfolding record_then
inside-then f (see-end h) g = in-ended
inside-then f (see-bad h) g = in-broken
inside-then f (see-rec {st = st} {n = n} {nx = nx} h h' b) g = in-rec {st = st} {size = n} (omega arith) (g nx)

inside-up_to : (n : ℕ) (s : List ℕ) (at : ℕ) → Inside (length s) (up_to n s at)
unfolding up_to
inside-up_to zero s at = in-ended
inside-up_to (suc n) s at = inside-then (up_to n s) (seen s at) (inside-up_to n s)

pub inside : (s : List ℕ) (at : ℕ) → Inside (length s) (records s at)
unfolding records
inside s at = inside-up_to (length s - at) s at
