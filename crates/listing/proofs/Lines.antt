-- Laws of texts that are put into a buffer part by part. Assumes nothing.
use Prim.Native.Nat.{ℕ, suc, ◌+◌, ◌-◌, ◌≤◌, ◌<◌}
use mathlib.Core.Path.{◌≡◌, refl, ap, sym, ◌∙◌}
use mathlib.Core.Bool.{Bool, true, false}
use mathlib.Core.List.{List, [], ◌∷◌, ◌++◌, append_assoc}
use native.Mathlib.Nat.{add-zero, zero-add}
use native.Mathlib.Omega.{arith}
use borrow.Author.Tests.{lt-ltb, le-ltb, ltb-false}
use lib.ListN.{length, set, take, drop, length-append, length-drop}
use Rattle.std.proofs.lemmas.List.{drop-drop}
use lib.Seq.{sets, sets-eq, length-sets}
use lib.Dec.{ltb}
use Rattle.numbers.specs.Numbers.{done, no_room}
use Rattle.std.specs.Prelude.{if◌then◌else◌}
use Rattle.std.specs.Prelude.{Result, Ok, Err}
use Rattle.std.specs.Result.{result_unwrap_or}
use Rattle.numbers.specs.declared.refusal.Refusal.{Refusal}
use Rattle.listing.specs.Listing.{Written, written, ascii, digits, part, newline, paper_line, row_line, refused_line, text_on, text_given}

-- one text put after another
pub sets_more : (l : List ℕ) (i : ℕ) (u v : List ℕ) → sets (sets l i u) (i + length u) v ≡ sets l i (u ++ v)
sets_more l i [] v = ap (λ (k : ℕ). sets l k v) (add-zero i)
sets_more l i (a ∷ u) v = ap (λ (k : ℕ). sets (sets (set l i a) (suc i) u) k v) (omega arith) ∙ sets_more (set l i a) (suc i) u v

pub sets-after : (l : List ℕ) (at : ℕ) (u v : List ℕ) {next end : ℕ} {m k : List ℕ} → next ≡ at + length u → m ≡ sets l at u → end ≡ next + length v → k ≡ sets m next v → (end ≡ at + length (u ++ v)) × (k ≡ sets l at (u ++ v))
sets-after l at u v en em ee ek = (omega (arith, en, ee, length-append u v), ek ∙ rw (em, en) (sets_more l at u v))

-- a word that is copied into a part of the buffer, and the bytes after that part
pub word-put : (w l : List ℕ) (at : ℕ) {v : List ℕ} → at + length w ≤ length l → v ≡ w → take at l ++ (v ++ drop (at + length w - at) (drop at l)) ≡ sets l at w
word-put w l at h e =
    let n : at + (at + length w - at) ≡ at + length w = omega arith in
    ap (λ (u : List ℕ). take at l ++ (u ++ drop (at + length w - at) (drop at l))) e
    ∙ ap (λ (r : List ℕ). take at l ++ (w ++ r)) (drop-drop (at + length w - at) at l ∙ ap (λ (k : ℕ). drop k l) n)
    ∙ sym (append_assoc (take at l) w (drop (at + length w) l))
    ∙ sym (sets-eq w l at h)

-- ---- a line, part by part: t stands in m from the buffer's start on

pub record Begun (t l m : List ℕ) (at : ℕ) : Type 0 where
  pub place : at ≡ length t
  pub same : length m ≡ length l
  pub sofar : m ≡ sets l 0 t

pub begun-none : (l : List ℕ) → Begun [] l l 0
begun-none l = record { place = refl; same = refl; sofar = refl }

pub begun_more : {t l m : List ℕ} {at : ℕ} → Begun t l m at → (u : List ℕ) {k : List ℕ} {next : ℕ} → next ≡ at + length u → k ≡ sets m at u → Begun (t ++ u) l k next
begun_more {t} {l} {m} {at} b u en ek =
    record {
      place = omega (arith, en, b.place, length-append t u);
      same = ap length ek ∙ length-sets m at u ∙ b.same;
      sofar = ek ∙ ap (λ (k : List ℕ). sets k at u) b.sofar ∙ ap (λ (k : ℕ). sets (sets l 0 t) k u) (omega (arith, b.place)) ∙ sets_more l 0 t u;
    }

-- ---- the answer and the buffer, for a text of `size` bytes

module _ (t l : List ℕ) {size : ℕ} (e : size ≡ length t) where
  pub line_refused : length l < size → (◌≡◌ {A = Written} (record { number = no_room; size = 0 }) (text_given t (length l))) × (l ≡ text_on t l)
  unfolding text_given text_on
  line_refused h = let s = lt-ltb (length l) (length t) (omega arith) in (rw s, rw s)

  pub line-put : size ≤ length l → {u m : List ℕ} {at : ℕ} → Begun u l m at → t ≡ u ++ (newline ∷ []) → (◌≡◌ {A = Written} (record { number = done; size = size }) (text_given t (length l))) × (set m at newline ≡ text_on t l)
  unfolding text_given text_on
  line-put h {u} {m} {at} b et =
      let s = le-ltb (length l) (length t) (omega arith) in
      let w : Begun (u ++ (newline ∷ [])) l (set m at newline) (at + 1) = begun_more b (newline ∷ []) refl refl in
      (rw (s, e), rw s (w.sofar ∙ ap (sets l 0) (sym et) ∙ sets-eq t l 0 (omega arith) ∙ ap (λ (k : ℕ). t ++ drop k l) (zero-add (length t))))

-- ---- for callers

-- what is answered stays in the buffer
pub text-inside : (t l : List ℕ) {w : Written} {m : List ℕ} → (w ≡ text_given t (length l)) × (m ≡ text_on t l) → (w.size ≤ length l) × (length m ≡ length l)
unfolding text_given text_on
text-inside t l {w} {m} p = by (ltb (length l) (length t)) refl p.0 p.1
  where
    by : (b : Bool) → ltb (length l) (length t) ≡ b → w ≡ (if b then record { number = no_room; size = 0 } else record { number = done; size = length t }) → m ≡ (if b then l else t ++ drop (length t) l) → (w.size ≤ length l) × (length m ≡ length l)
    by true h e f = (omega (arith, ap (λ (v : Written). v.size) e), ap length f)
    by false h e f =
        let n = ltb-false (length l) (length t) h in
        (omega (arith, ap (λ (v : Written). v.size) e), omega (arith, ap length f, length-append t (drop (length t) l), length-drop (length t) l))

pub text-fits : (t l : List ℕ) (r : Result ℕ Refusal) {m : List ℕ} → (written r ≡ text_given t (length l)) × (m ≡ text_on t l) → result_unwrap_or r 0 ≤ length l
text-fits t l (Ok n) p = (text-inside t l p).0
text-fits t l (Err why) p = omega arith

-- ---- the three lines

pub paper-size : (W H D : ℕ) {a b c : ℕ} → a ≡ length (digits W) → b ≡ length (digits H) → c ≡ length (digits D) → 24 + a + b + c ≡ length (paper_line W H D)
unfolding paper_line part ascii
paper-size W H D ea eb ec = simp length-append (omega (arith, ea, eb, ec))

pub paper-parts : (W H D : ℕ) → paper_line W H D ≡ ((part "paper " W ++ part " height " H) ++ part " dropped " D) ++ (newline ∷ [])
unfolding paper_line
paper-parts W H D = simp append_assoc

pub row-size : (R I : ℕ) {a b : ℕ} → a ≡ length (digits R) → b ≡ length (digits I) → 10 + a + b ≡ length (row_line R I)
unfolding row_line part ascii
row-size R I ea eb = simp length-append (omega (arith, ea, eb))

pub row-parts : (R I : ℕ) → row_line R I ≡ (part "row " R ++ part " ink " I) ++ (newline ∷ [])
unfolding row_line
row-parts R I = simp append_assoc

pub refused-size : (N : ℕ) {a : ℕ} → a ≡ length (digits N) → 9 + a ≡ length (refused_line N)
unfolding refused_line part ascii
refused-size N ea = simp length-append (omega (arith, ea))

pub refused-parts : (N : ℕ) → refused_line N ≡ part "refused " N ++ (newline ∷ [])
unfolding refused_line
refused-parts N = refl
