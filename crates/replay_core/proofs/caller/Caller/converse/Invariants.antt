use Rattle.call_table.specs.Shown.{IsClientOf}
use Rattle.replay_core.proofs.Common.{SameCaller}
use Rattle.replay_core.specs.Callers.{WasTold}
use Rattle.replay_core.proofs.caller.Caller.converse.Given as goal

abbrev pub invariant-loop : goal.invariant-loop
invariant-loop g l =
    (goal.iterator-loop g).can_next l.iterator' × (goal.iterator-loop g).is_finite l.iterator'
    × SameCaller l.fn.self l.self × IsClientOf l.hub l.self.client
    × WasTold (g.W.Watch.told l.fn.watch) l.self
