use Rattle.fd_table.specs.Rows.{AreOpenBelow}
use Rattle.fd_table.proofs.rows.Row.lowest_closed.Given as goal

-- the descriptors that were passed are open
abbrev pub invariant-loop-fd : goal.invariant-loop-fd
invariant-loop-fd l = AreOpenBelow l.self-inside.keys.items l.fd
