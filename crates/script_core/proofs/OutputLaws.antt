-- A script has one output: for `scripts_have_one_output`.
use Rattle.script_core.proofs.Common.{rules, arith, ◌≡◌, ℕ, List, Ok, common_steps, LocksHaveOneReport, State, Event, Meaning, Reads, IsReport}
use Rattle.session_core.specs.OneDrain.{ArrivalsHaveOneDrain}
use Rattle.script_core.specs.Output.{ScriptsHaveOneOutput}
use Rattle.script_core.proofs.ReadingLemmas.{one_reading}

-- an accepted script has one meaning
pub one_meaning : (bytes : List ℕ) (meaning other : Meaning) → Reads bytes (Ok meaning) → Reads bytes (Ok other) → meaning ≡ other
one_meaning bytes meaning other h k = search (rules, one_reading)

-- the reports of equal states are equal
pub one_report : LocksHaveOneReport → (processes : ℕ) (S T : State) (events journal : List Event) (sent : ℕ → ℕ) (text other : List ℕ)
    → S ≡ T → events ≡ journal → IsReport processes S events sent text → IsReport processes T journal sent other → text ≡ other
one_report one processes S T events journal sent text other same_state same_events h k = grind (arith, common_steps)

pub IsOutput-unique : LocksHaveOneReport → ArrivalsHaveOneDrain → ScriptsHaveOneOutput
IsOutput-unique report drain bytes text other h k = search (rules, one_meaning, one_report)
