-- A refusal has a number of its own, and none has number 0. Assumes nothing.
use Rattle.std.proofs.Common.{◌≡◌, ℕ, ◌<◌, [], ◌∷◌, get_or, refl, sym, ap, ◌∙◌, arith, Result, Ok, Err}
use Rattle.std.specs.Result.{IsErrAnd}
use Rattle.std.proofs.lemmas.Result.{err_from_is_err_and}
use Rattle.numbers.specs.declared.refusal.Refusal.{Refusal}
use Rattle.numbers.specs.declared.refusal.Refusal.TheVariants.{NoRoom, TooLarge, WrongLength, NoLayers, OffPaper, TooMany, Short, TooTall, BadCanvas, EmptyArea, BadJob, TooLong, NotTranslated, BadPlan, NoRow, LayerSize}
use Rattle.numbers.specs.Numbers.{done, number_of, number}

pub refused : (why : Refusal) → 0 < number_of why
refused NoRoom = omega arith
refused TooLarge = omega arith
refused WrongLength = omega arith
refused NoLayers = omega arith
refused OffPaper = omega arith
refused TooMany = omega arith
refused Short = omega arith
refused TooTall = omega arith
refused BadCanvas = omega arith
refused EmptyArea = omega arith
refused BadJob = omega arith
refused TooLong = omega arith
refused NotTranslated = omega arith
refused BadPlan = omega arith
refused NoRow = omega arith
refused LayerSize = omega arith

-- the refusal of a number
abbrev numbered : ℕ → Refusal
numbered n =
    get_or (NoRoom ∷ NoRoom ∷ TooLarge ∷ WrongLength ∷ NoLayers ∷ OffPaper ∷ TooMany ∷ Short ∷ TooTall ∷ BadCanvas ∷ EmptyArea ∷ BadJob ∷ TooLong ∷ NotTranslated ∷ BadPlan ∷ NoRow ∷ []) n LayerSize

numbered-own : (why : Refusal) → numbered (number_of why) ≡ why
numbered-own NoRoom = refl
numbered-own TooLarge = refl
numbered-own WrongLength = refl
numbered-own NoLayers = refl
numbered-own OffPaper = refl
numbered-own TooMany = refl
numbered-own Short = refl
numbered-own TooTall = refl
numbered-own BadCanvas = refl
numbered-own EmptyArea = refl
numbered-own BadJob = refl
numbered-own TooLong = refl
numbered-own NotTranslated = refl
numbered-own BadPlan = refl
numbered-own NoRow = refl
numbered-own LayerSize = refl

pub one_refusal : (x y : Refusal) → number_of x ≡ number_of y → x ≡ y
one_refusal x y e = sym (numbered-own x) ∙ (ap numbered e ∙ numbered-own y)

-- answers that say nothing but whether they are done
pub one_answer : (x y : Result (Unit {0}) Refusal) → number x ≡ number y → x ≡ y
one_answer (Ok a) (Ok b) e = refl
one_answer (Ok a) (Err y) e = absurd (omega (arith, refused y))
one_answer (Err x) (Ok a) e = absurd (omega (arith, refused x))
one_answer (Err x) (Err y) e = ap Err (one_refusal x y e)

-- what a `?` hands on
pub handed : {A : Type 0} (r : Result A Refusal) (why : Refusal) → IsErrAnd r (λ y. y ≡ why) → number r ≡ number_of why
handed r why h = let p = err_from_is_err_and r h in rw (p.1, p.2)

pub never : (why : Refusal) → number_of why ≡ done → ⊥
never why e = omega (arith, refused why, e)
