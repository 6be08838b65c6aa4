use Rattle.lock_server.proofs.Common.{◌∙◌, through_at, rules_of, state_of, table_state}
use Rattle.lock_server.proofs.HoldingLemmas.{kept_moved, kept_rested, kept_tidied, kept_unseen, unseen_on}
use Rattle.lock_server.proofs.SafeLemmas.{moves_forgotten}
use Rattle.lock_server.proofs.ServerLemmas.{safe_rested, swept}
use Rattle.lock_server.proofs.SweptLemmas.{all_swept_but}
use Rattle.lock_server.proofs.server.LockServer.forget_on.Goals as goal

pub invariant_of-self : goal.invariant_of-self
invariant_of-self c =
    let table = c.args.self.now.table in
    let through = through_at c.args.self.now.openings in
    let forgotten = table_state c.dismiss.new.self in
    let moves = moves_forgotten (table_state table) c.args.file c.args.owner forgotten c.dismiss.ensures.forgets in
    let rest = swept _ forgotten c.args.file (table_state c.settle.new.self) (table_state c.sweep.new.self)
    (record { settles = c.settle.ensures.settles; settled = c.settle.ensures.settled }) c.sweep.ensures.same in
    record {
      safe = safe_rested _ table c.sweep.new.self _ forgotten c.args.file c.args.self.now.safe moves rest;
      swept = all_swept_but table c.sweep.new.self c.args.file
          (λ other differs. c.sweep.ensures.others other differs ∙ c.settle.ensures.others other differs ∙ c.dismiss.ensures.others other differs)
          c.sweep.ensures.gone c.args.self.now.swept;
      kept = kept_tidied c.args.self.now.holdings c.tidy.new.self (table_state c.sweep.new.self) (through_at c.forget.new.self) c.args.owner c.args.file c.tidy.ensures
          (kept_unseen c.args.self.now.holdings (table_state c.sweep.new.self) through (through_at c.forget.new.self)
          (unseen_on through (through_at c.forget.new.self) c.args.file c.args.owner c.forget.ensures)
          (kept_rested c.args.self.now.holdings through _ forgotten c.args.file (table_state c.sweep.new.self) rest
          (kept_moved c.args.self.now.holdings through (table_state table) c.args.file forgotten c.args.self.now.kept moves)));
    }

pub returns-clause-forgets : goal.returns-clause-forgets
unfolding rules_of state_of
returns-clause-forgets c =
    let table = c.args.self.now.table in
    let rest = swept _ (table_state c.dismiss.new.self) c.args.file (table_state c.settle.new.self) (table_state c.sweep.new.self)
    (record { settles = c.settle.ensures.settles; settled = c.settle.ensures.settled }) c.sweep.ensures.same in
    record { between = table_state c.dismiss.new.self; forgets = c.dismiss.ensures.forgets; settles = rest.settles }
