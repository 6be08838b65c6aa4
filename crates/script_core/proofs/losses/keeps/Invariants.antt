use Rattle.script_core.proofs.Common.{◌≡◌, false, look_at, State, StandsFor, any_open, stays_on}
use Rattle.script_core.proofs.losses.keeps.Given as goal

abbrev pub invariant-loop-fd : goal.invariant-loop-fd
invariant-loop-fd l =
    (S : State) → StandsFor l.manager S → any_open (look_at S.descriptors l.q) (stays_on l.closing l.q l.description) l.fd ≡ false
