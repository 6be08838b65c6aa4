use Rattle.call_table.specs.Desks.{IsDeskOf, SameDesk}
use Rattle.replay_core.proofs.threads.serve_all.Given as goal

abbrev pub invariant-loop : goal.invariant-loop
invariant-loop g l =
    (goal.iterator-loop g).can_next l.iterator' × (goal.iterator-loop g).is_finite l.iterator'
    × SameDesk l.fn.desk l.desk × IsDeskOf l.hub l.desk
