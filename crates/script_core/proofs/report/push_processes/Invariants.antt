use Rattle.script_core.proofs.Common.{◌≡◌, ◌++◌, ℕ, All, List, Rules, State, Event, IsRun, HasFewTaken, lines_from}
use Rattle.session_core.specs.Checking.{HasAccepted}
use Rattle.script_core.proofs.report.push_processes.Given as goal

abbrev pub invariant-loop-index : goal.invariant-loop-index
invariant-loop-index l =
    ((rules : Rules) (processes : ℕ) (accepted : List Event) (S : State) → HasAccepted rules processes l.checker accepted
    → IsRun rules processes accepted S → l.lines.items ≡ l.fn.lines.items ++ lines_from S.states accepted 1 l.index)
    × (All HasFewTaken l.fn.lines.items → All HasFewTaken l.lines.items)
