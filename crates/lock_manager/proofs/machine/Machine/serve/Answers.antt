use Rattle.lock_manager.proofs.Common.{arith, [], to_z-of_z, common_steps}
use Rattle.lock_manager.proofs.calls.ReplyLemmas.{told_by}
use Rattle.lock_manager.proofs.machine.Machine.serve.Goals as goal

pub returns-in-OpenFile-clause-told : goal.returns-in-OpenFile-clause-told
returns-in-OpenFile-clause-told c = grind (arith, common_steps, told_by)

pub returns-in-Dup-clause-told : goal.returns-in-Dup-clause-told
returns-in-Dup-clause-told c = grind (arith, common_steps, told_by)

pub returns-in-DupTo-clause-told : goal.returns-in-DupTo-clause-told
returns-in-DupTo-clause-told c = grind (arith, common_steps, told_by)

pub returns-in-CloseFd-clause-told : goal.returns-in-CloseFd-clause-told
returns-in-CloseFd-clause-told c = grind (arith, common_steps, told_by)

pub returns-in-Seek-clause-told : goal.returns-in-Seek-clause-told
returns-in-Seek-clause-told c = grind (arith, common_steps, told_by, to_z-of_z)

pub returns-in-Resize-clause-told : goal.returns-in-Resize-clause-told
returns-in-Resize-clause-told c = grind (arith, common_steps, told_by, to_z-of_z)

pub returns-in-Fork-clause-told : goal.returns-in-Fork-clause-told
returns-in-Fork-clause-told c = grind (arith, common_steps, told_by)

pub returns-in-Exit-clause-told : goal.returns-in-Exit-clause-told
returns-in-Exit-clause-told c = rw (c.in-Exit.is, c.requires.empty) (λ S h are. c.end.ensures.ends [] S h)
