use Rattle.script_core.proofs.Common.{◌≡◌, filter, take, descriptor_limit, State, StandsFor, processes_of}
use Rattle.script_core.specs.Losses.{is_released}
use Rattle.script_core.proofs.losses.released_by_end.Given as goal

abbrev pub invariant-loop-held : goal.invariant-loop-held
invariant-loop-held l =
    (S : State) → StandsFor l.manager S → l.locks.items
    ≡ filter (λ held. is_released (processes_of l.manager) (descriptor_limit l.limits) S l.p held.owner) (take l.held-index l.held-items)
