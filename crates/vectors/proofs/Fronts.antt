-- A buffer that bytes are written to from its start on, one after another. Assumes nothing.
use mathlib.Core.Path.{◌≡◌, refl, ap, ◌∙◌}
use mathlib.Core.List.{List, [], ◌∷◌, ◌++◌, append_assoc}
use Prim.Native.Nat.{ℕ, suc, ◌+◌, ◌<◌}
use native.Mathlib.Numerals.{add-one}
use native.Mathlib.Omega.{arith}
use lib.ListN.{length, get_or, set, drop, length-append}
use lib.Seq.{drop-cons, set_at}

-- the buffer l, with the n bytes of p at its start, is m
pub record Front (p : List ℕ) (n : ℕ) (l m : List ℕ) : Type 0 where
  pub count : length p ≡ n
  pub content : m ≡ p ++ drop n l

pub front-none : (l : List ℕ) → Front [] 0 l l
front-none l = record { count = refl; content = refl }

pub front-next : {p q : List ℕ} {n : ℕ} {l m : List ℕ} (v : ℕ) → Front p n l m → n < length l → q ≡ p ++ (v ∷ []) → Front q (n + 1) l (set m n v)
front-next {p} {q} {n} {l} {m} v f h e =
    record {
      count = ap length e ∙ simp length-append (omega arith);
      content = rw (f.content, e, add-one, drop-cons l n 0 h, set_at p (get_or l n 0) (drop (suc n) l) v n f.count, append_assoc);
    }
