-- Predicates that at most one value meets, and the choices by a fact and the chains that are made of them.
use Rattle.lock_manager.proofs.Common.{arith, ◌≡◌, sym, ◌∙◌, subst, common_steps, MatchFact}
use Rattle.std.proofs.Common.{subst₂}

-- at most one value meets the predicate
abbrev pub AtMostOne : {A : Type 0} → (A → Type 0) → Type 0
AtMostOne {A} P = (x y : A) → P x → P y → x ≡ y

-- at most one value is this one
pub one_value : {A : Type 0} (a : A) → AtMostOne (λ x. x ≡ a)
one_value a x y h k = h ∙ sym k

-- where each case has at most one value, so has the choice by a fact
pub MatchFact-unique : {A : Type 0} (Fact : Type 0) (P Q : A → Type 0) → AtMostOne P → AtMostOne Q → AtMostOne (λ x. MatchFact Fact (P x) (Q x))
MatchFact-unique Fact P Q h h2 h3 h4 h5 h6 = grind (arith, common_steps)

-- at most one value comes of one that is determined
pub by_one : {A X : Type 0} (Gives : A → Type 0) (Comes : A → X → Type 0) → AtMostOne Gives → ((a : A) → AtMostOne (Comes a))
    → AtMostOne (λ x. (a : A) × Gives a × Comes a x)
by_one {A} {X} Gives Comes given comes x y h k =
    comes k.0 x y (subst (λ (a : A). Comes a x) (given h.0 k.0 h.1 k.1) h.2) k.2

-- at most one value comes of two that are determined
pub by_two : {A B X : Type 0} (Gives : A → B → Type 0) (Comes : A → B → X → Type 0)
    → ((a : A) (b : B) (c : A) (d : B) → Gives a b → Gives c d → (a ≡ c) × (b ≡ d))
    → ((a : A) (b : B) → AtMostOne (Comes a b))
    → AtMostOne (λ x. (a : A) × (b : B) × Gives a b × Comes a b x)
by_two {A} {B} {X} Gives Comes given comes x y h k =
    let same : (h.0 ≡ k.0) × (h.1 ≡ k.1) = given h.0 h.1 k.0 k.1 h.2 k.2 in
    comes k.0 k.1 x y (subst₂ (λ (a : A) (b : B). Comes a b x) same.0 same.1 h.3) k.3
