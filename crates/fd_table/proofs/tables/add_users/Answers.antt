use Rattle.fd_table.proofs.Common.{common_steps, sym, arith, Updates-with_value}
use Rattle.fd_table.proofs.EntryLemmas.{some_is}
use Rattle.fd_table.proofs.ChangeLemmas.{one_more}
use Rattle.fd_table.proofs.ForkLemmas.{users_fit, counted_more, counted_vacant, counted_closed}
use Rattle.fd_table.proofs.tables.add_users.Goals as goal
use Rattle.fd_table.proofs.tables.add_users.Goals.{in-Some+in-Some-get_mut, in-Some+in_default-get_mut, in_default}

pub overflow_add-entry : goal.overflow_add-entry
overflow_add-entry c =
    omega (arith, users_fit c.args.opened.now c.loop-fd.opened c.args.row.now c.loop-fd.fd c.in-Some.key c.in-Some-get_mut.entry.now (omega (arith, c.len-fd-end.ensures)) c.requires c.loop-fd.invariant (sym c.in-Some-get_mut.ensures.value))

pub loop-fd-preserved : goal.loop-fd-preserved
loop-fd-preserved c =
    grind (arith, common_steps, in-Some+in-Some-get_mut, counted_more, Updates-with_value, one_more, some_is, in-Some+in_default-get_mut, counted_vacant, in_default, counted_closed)
