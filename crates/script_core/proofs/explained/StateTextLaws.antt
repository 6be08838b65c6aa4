-- What is told of a state, or of what changed, is determined.
use Rattle.script_core.proofs.Common.{arith, rules, ◌≡◌, ℕ, ◌==◌, Bool, true, false, MatchBool, List, [], ◌∷◌, sym, ◌∙◌, subst, common_steps, descriptor_limit, mode_in, flock_mode_in, LocksHaveOneReport, Rules, State, StateLine, States, AreStateLines, IsStateText, IsChangesText, TellsState}
use Rattle.script_core.specs.declared.states.States.TheVariants as places
use Rattle.script_core.specs.StateText.{AreMissing, AreToldAgainst}

AreStateLines-unique : LocksHaveOneReport → (processes descriptors : ℕ) (S : State) (told others : List StateLine)
    → AreStateLines processes descriptors S told → AreStateLines processes descriptors S others → told ≡ others
AreStateLines-unique one processes descriptors S told others h k =
    let same = one (mode_in S.changes) (flock_mode_in S.flock_changes) h.held k.held h.is_held k.is_held in
    grind (arith, common_steps)

IsStateText-unique : LocksHaveOneReport → (processes descriptors : ℕ) (S : State) (text other : List ℕ) → IsStateText processes descriptors S text
    → IsStateText processes descriptors S other → text ≡ other
IsStateText-unique one processes descriptors S text other h k =
    let same = AreStateLines-unique one processes descriptors S h.0 k.0 h.1 k.1 in
    grind (arith, common_steps)

AreMissing-unique : (told others missing another : List StateLine) → AreMissing told others missing → AreMissing told others another → missing ≡ another
AreMissing-unique [] others missing another h k = h ∙ sym k
AreMissing-unique (line ∷ told) others missing another h k = grind (arith, common_steps, AreMissing-unique told others)

IsChangesText-unique : (before after : List StateLine) (text other : List ℕ) → IsChangesText before after text → IsChangesText before after other
    → text ≡ other
IsChangesText-unique before after text other h k =
    let gone = AreMissing-unique before after h.0 k.0 h.1 k.1 in
    let came = AreMissing-unique after before h.2 k.2 h.3 k.3 in
    grind (arith, common_steps)

AreToldAgainst-unique : LocksHaveOneReport → (rules : Rules) (processes number : ℕ) (S : State) (before other : List StateLine)
    → AreToldAgainst rules processes number S before → AreToldAgainst rules processes number S other → before ≡ other
AreToldAgainst-unique one rules processes number S before other h k = by_first (number == 1) h k
  where
    by_first : (first : Bool) → MatchBool first (before ≡ []) (AreStateLines processes (descriptor_limit rules.limits) S before)
        → MatchBool first (other ≡ []) (AreStateLines processes (descriptor_limit rules.limits) S other) → before ≡ other
    by_first true h k = h ∙ sym k
    by_first false h k = AreStateLines-unique one processes (descriptor_limit rules.limits) S before other h k

pub TellsState-unique : LocksHaveOneReport → (states : States) (rules : Rules) (processes number : ℕ) (S T : State) (text other : List ℕ)
    → TellsState states rules processes number S T text → TellsState states rules processes number S T other → text ≡ other
TellsState-unique one places.Nowhere rules processes number S T text other h k = h ∙ sym k
TellsState-unique one (places.Behind place) rules processes number S T text other h k = by_place (number == place) h k
  where
    by_place : (here : Bool) → MatchBool here (IsStateText processes (descriptor_limit rules.limits) T text) (text ≡ [])
        → MatchBool here (IsStateText processes (descriptor_limit rules.limits) T other) (other ≡ []) → text ≡ other
    by_place true h k = IsStateText-unique one processes (descriptor_limit rules.limits) T text other h k
    by_place false h k = h ∙ sym k
TellsState-unique one places.Everywhere rules processes number S T text other h k =
    IsStateText-unique one processes (descriptor_limit rules.limits) T text other h k
TellsState-unique one places.Changes rules processes number S T text other h k =
    let before : h.0 ≡ k.0 = AreToldAgainst-unique one rules processes number S h.0 k.0 h.1 k.1 in
    let after : h.2 ≡ k.2 = AreStateLines-unique one processes (descriptor_limit rules.limits) T h.2 k.2 h.3 k.3 in
    IsChangesText-unique k.0 k.2 text other
    (subst (λ (b : List StateLine). IsChangesText b k.2 text) before (subst (λ (a : List StateLine). IsChangesText h.0 a text) after h.4)) k.4
