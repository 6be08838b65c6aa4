-- How a command line asks for a history to be judged (the words are this project's choice).
use Rattle.std.specs.Prelude.{◌≡◌, ◌≢◌, ℕ, ◌^◌, ◌<◌, ◌≤◌, ◌⊎◌, codes, Bool, true, false, Option, Some, None, Result, Ok, Err, List, decimal}
use Rattle.history_check.specs.declared.judging.Judging.{Judging}
use Rattle.history_check.specs.declared.judging.LockStates.{LockStates}
use Rattle.history_check.specs.declared.judging.LockStates.TheVariants as places
use Rattle.lockreplay.specs.declared.options.Misuse.{Misuse}
use Rattle.lockreplay.specs.declared.options.Misuse.TheVariants as misuses

-- the word spells a limit, from 1 on, or none
abbrev pub IsLimitOf : List ℕ → Result ℕ Misuse → Type 0
IsLimitOf word (Ok limit) = (1 ≤ limit) × (word ≡ decimal limit)
IsLimitOf word (Err misuse) = ((limit : ℕ) → 1 ≤ limit → limit < 2 ^ 64 → word ≢ decimal limit) × (misuse ≡ misuses.Limit)

-- the word asks for the locks behind these lines of an order, or for nothing
abbrev pub AreStatesOf : List ℕ → Result LockStates Misuse → Type 0
AreStatesOf word (Ok places.Nowhere) = ⊥
AreStatesOf word (Ok (places.Behind place)) = (1 ≤ place) × (word ≡ decimal place)
AreStatesOf word (Ok places.Everywhere) = word ≡ codes "all"
AreStatesOf word (Err misuse) = (word ≢ codes "all") × ((place : ℕ) → 1 ≤ place → place < 2 ^ 64 → word ≢ decimal place) × (misuse ≡ misuses.Line)

-- --order, given or not, and the word behind --state, if that is given, ask for so many locks: --state asks for nothing without --order
abbrev pub AreStatesAsked : Bool → Option (List ℕ) → Result LockStates Misuse → Type 0
AreStatesAsked order None result = result ≡ Ok places.Nowhere
AreStatesAsked true (Some word) result = AreStatesOf word result
AreStatesAsked false (Some word) result = result ≡ Err misuses.Unordered

-- the word behind --limit, if that is given, asks for this limit: a million possibilities where none is given
abbrev pub IsLimitAsked : Option (List ℕ) → Result ℕ Misuse → Type 0
IsLimitAsked None result = result ≡ Ok 1000000
IsLimitAsked (Some word) result = IsLimitOf word result

-- --open, --runs and --order, each given or not, and the words behind --state and --limit, if they are given, ask for this, or the first of
-- them that asks for nothing is refused: the limit, and then the locks
abbrev pub IsJudgingOf : Bool → Bool → Bool → Option (List ℕ) → Option (List ℕ) → Result Judging Misuse → Type 0
IsJudgingOf open_waits runs order state limit (Ok judging) =
    (judging.runs ≡ runs) × (judging.open_waits ≡ open_waits) × (judging.order ≡ order) × AreStatesAsked order state (Ok judging.states)
    × IsLimitAsked limit (Ok judging.limit)
IsJudgingOf open_waits runs order state limit (Err misuse) =
    IsLimitAsked limit (Err misuse) ⊎ (((possibilities : ℕ) × IsLimitAsked limit (Ok possibilities)) × AreStatesAsked order state (Err misuse))
