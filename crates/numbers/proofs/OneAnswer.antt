-- What it means that a contract leaves one answer. A contract's `ensures` speaks of the lifetimes, the arguments, the result, and the arguments as the function returns. Assumes nothing.
use mathlib.Core.Path.{◌≡◌, sym, ◌∙◌}

-- any two results that meet it for the same arguments are equal
abbrev pub OneAnswer : {K : Type 0} {A R E : K → Type 0} → ((k : K) → A k → R k → E k → Type 0) → Type 0
OneAnswer {K} {A} {R} {E} ensures = (k : K) (a : A k) (x y : R k) (e f : E k) → ensures k a x e → ensures k a y f → x ≡ y

-- two that equal a third are equal
pub both : {A : Type 0} {x y z : A} → x ≡ z → y ≡ z → x ≡ y
both p q = p ∙ sym q

-- any two runs that meet it for the same arguments leave the same in what `see` shows of the lent
abbrev pub OneContent : {K B : Type 0} {A R E : K → Type 0} → ((k : K) → A k → R k → E k → Type 0) → ((k : K) → E k → B) → Type 0
OneContent {K} {B} {A} {R} {E} ensures see = (k : K) (a : A k) (x y : R k) (e f : E k) → ensures k a x e → ensures k a y f → see k e ≡ see k f

-- any two results of a kind that meet it for the same arguments are equal
abbrev pub OneAnswerWhere : {K : Type 0} {A R E : K → Type 0} → ((k : K) → R k → Type 0) → ((k : K) → A k → R k → E k → Type 0) → Type 0
OneAnswerWhere {K} {A} {R} {E} kind ensures = (k : K) (a : A k) (x y : R k) (e f : E k) → ensures k a x e → ensures k a y f → kind k x → kind k y → x ≡ y
