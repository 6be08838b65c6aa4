use Rattle.lock_server.proofs.Common.{through_at, table_state}
use Rattle.lock_server.proofs.HoldingLemmas.{kept_entered, kept_held, kept_same, kept_tidied}
use Rattle.lock_server.proofs.holdings.Holdings.reserve.Goals as goal

pub returns-in_err-enter-clause-kept : goal.returns-in_err-enter-clause-kept
returns-in_err-enter-clause-kept c kept =
    kept_held c.args.self.now c.enter.new.self (table_state c.args.table.now) (through_at c.args.openings.now) c.in_err-enter.ensures.err kept

pub returns-in-Ok-clause-kept : goal.returns-in-Ok-clause-kept
returns-in-Ok-clause-kept c kept =
    let through = through_at c.args.openings.now in
    let S = table_state c.args.table.now in
    kept_same c.enter.new.self through S (table_state c.reserve.new.self) c.reserve.ensures.same
    (kept_entered c.args.self.now c.enter.new.self S through c.args.wanted.now.owner c.args.file c.in_ok-enter.ensures.ok kept)

pub returns-in-Err-clause-kept : goal.returns-in-Err-clause-kept
returns-in-Err-clause-kept c kept =
    let through = through_at c.args.openings.now in
    let S = table_state c.args.table.now in
    let T = table_state c.reserve.new.self in
    kept_tidied c.enter.new.self c.tidy.new.self T through c.args.wanted.now.owner c.args.file c.tidy.ensures
    (kept_same c.enter.new.self through S T c.reserve.ensures.same
    (kept_entered c.args.self.now c.enter.new.self S through c.args.wanted.now.owner c.args.file c.in_ok-enter.ensures.ok kept))
