-- What a `JournalChecker` has accepted (the words are this project's choice).
use Rattle.std.specs.Prelude.{◌≡◌, ℕ, Option, Some, None, Result, Ok, Err, List, [], ◌∷◌, ◌++◌}
use Rattle.lock_manager.specs.declared.request.Rules.{Rules}
use Rattle.lock_manager.specs.declared.manager.Manager.{Manager}
use Rattle.lock_manager.specs.State.{State}
use Rattle.lock_manager.specs.ManagerView.{StandsFor, rules_of, processes_of}
use Rattle.session_core.specs.declared.check.CheckFault.{CheckFault}
use Rattle.session_core.specs.declared.check.CheckFault.TheVariants.{Illegal, Memory}
use Rattle.session_core.specs.declared.check.Expected.{Expected}
use Rattle.session_core.specs.declared.check.JournalChecker.{JournalChecker}
use Rattle.session_core.specs.Event.{Event}
use Rattle.session_core.specs.Runs.{IsRun}
use Rattle.session_core.specs.Replaying.{HasMade}
use Rattle.session_core.specs.Legality.{IsIllegal}

-- what the checker found expected in place of an entry, if one was illegal
unfoldable pub expected_by : JournalChecker → Option Expected
expected_by checker = checker.expected

-- the steps that the checker has made are those of these events
unfoldable pub HasRepeated : Rules → ℕ → JournalChecker → List Event → Type 0
HasRepeated rules processes checker events = HasMade rules processes checker.replay events

-- the checker accepted these events and found none illegal: they are a run of so many processes under these rules
pub record HasAccepted (rules : Rules) (processes : ℕ) (checker : JournalChecker) (events : List Event) : Type 0 where
  pub run : (T : State) × IsRun rules processes events T
  pub none_illegal : expected_by checker ≡ None
  pub repeated : HasRepeated rules processes checker events

-- where these events were accepted, and then this one came, the checker accepted it too, or it is illegal and the checker tells what
-- was expected; or memory was refused, and what was accepted stays
abbrev pub Checks : Rules → ℕ → JournalChecker → List Event → Event → Result Unit CheckFault → Type 0
Checks rules processes checker events event (Ok done) = HasAccepted rules processes checker (events ++ event ∷ [])
Checks rules processes checker events event (Err Illegal) =
    (expected : Expected) × (expected_by checker ≡ Some expected) × IsIllegal rules processes events event expected
Checks rules processes checker events event (Err (Memory memory)) = HasAccepted rules processes checker events

-- the manager has these rules and so many processes, and stands for each state that these events leave
pub record IsAfter (rules : Rules) (processes : ℕ) (events : List Event) (manager : Manager) : Type 0 where
  pub rules_are : rules_of manager ≡ rules
  pub processes_are : processes_of manager ≡ processes
  pub stands : (T : State) → IsRun rules processes events T → StandsFor manager T
