use Rattle.lock_server.proofs.Common.{arith, common_steps, byte_modes_of, file_state}
use Rattle.lock_server.proofs.ListedLemmas.{first_beyond, first_no_process, least_listed, none_anyhow, none_listed}
use Rattle.lock_server.proofs.file.LockFile.next_listed.Goals as goal
use Rattle.lock_server.proofs.file.LockFile.next_listed.Goals.{in-None, in-Some}

pub returns-in_err-owner-clause-none : goal.returns-in_err-owner-clause-none
unfolding file_state
returns-in_err-owner-clause-none c =
    none_anyhow c.from_residual.result
    (none_listed c.lists_from.result (byte_modes_of c.args.self.now.book) c.args.above c.match-above.first
    (elim c.match-above.branch [ in-None w ↦ grind (arith, common_steps) | in-Some w ↦ grind (arith, common_steps) ])
    c.lists_from.ensures.modes c.in_err-owner.ensures.steps.0)

pub returns-in-Description-clause-above : goal.returns-in-Description-clause-above
returns-in-Description-clause-above c =
    first_beyond c.lists_from.result c.args.above c.match-above.first
    (elim c.match-above.branch [ in-None w ↦ grind (arith, common_steps) | in-Some w ↦ grind (arith, common_steps) ])
    c.lists_from.ensures.from _ _ c.in_ok-owner.ensures.steps c.in-Description.owner c.in-Description.is

pub returns-in-Description-clause-least : goal.returns-in-Description-clause-least
unfolding file_state
returns-in-Description-clause-least c =
    least_listed c.lists_from.result (byte_modes_of c.args.self.now.book) c.args.above c.match-above.first
    (elim c.match-above.branch [ in-None w ↦ grind (arith, common_steps) | in-Some w ↦ grind (arith, common_steps) ])
    c.lists_from.ensures.modes _ _ c.in_ok-owner.ensures.steps c.lists_from.ensures.rising c.in-Description.owner c.in-Description.is

pub returns-in-Process-clause-none : goal.returns-in-Process-clause-none
unfolding file_state
returns-in-Process-clause-none c number byte from =
    absurd (first_no_process c.lists_from.result c.args.above c.match-above.first
    (elim c.match-above.branch [ in-None w ↦ grind (arith, common_steps) | in-Some w ↦ grind (arith, common_steps) ])
    c.lists_from.ensures.from _ _ c.in_ok-owner.ensures.steps c.in-Process.field-0 c.in-Process.is)
