use Rattle.lock_server.proofs.Common.{table_state}
use Rattle.lock_server.proofs.FirstLemmas.{set_and_crossed}
use Rattle.lock_server.proofs.HoldingLemmas.{kept_set_if}
use Rattle.lock_server.proofs.holdings.Holdings.set.Goals as goal

pub returns-in-Ok-clause-kept : goal.returns-in-Ok-clause-kept
returns-in-Ok-clause-kept c through kept =
    let S = table_state c.args.table.now in
    let M = table_state c.set_uncrossed.new.self in
    let T = table_state c.cross_by.new.self in
    kept_set_if c.args.self.now c.enter_for.new.self through S c.args.file c.args.owner c.args.span c.args.mode T
    (c.in-Ok.ensures.ok S through kept c.in_ok-had.ensures.had)
    (set_and_crossed S M T c.args.file c.args.owner c.args.span c.args.mode c.in_ok-had.ensures.ok c.cross_by.ensures.crosses) kept
