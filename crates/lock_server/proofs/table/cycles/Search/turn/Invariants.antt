use Rattle.lock_server.proofs.Common.{ℕ, ◌<◌, get_or, IsAhead}
use Rattle.lock_server.proofs.table.cycles.Search.turn.Given as goal

abbrev pub invariant-loop-owner : goal.invariant-loop-owner
invariant-loop-owner l = (place : ℕ) → place < l.owner-index → ¬ IsAhead l.self (get_or l.owners place 0)
