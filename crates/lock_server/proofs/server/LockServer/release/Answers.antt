use Rattle.lock_server.proofs.Common.{◌∙◌, false, through_at, rules_of, state_of, through_of, table_state}
use Rattle.lock_server.specs.Closing.{is_through}
use Rattle.lock_server.proofs.ClosingLemmas.{closes_then, moves_closed}
use Rattle.lock_server.proofs.HoldingLemmas.{kept_moved, kept_rested, kept_tidied_if}
use Rattle.lock_server.proofs.ServerLemmas.{safe_rested, swept}
use Rattle.lock_server.proofs.SweptLemmas.{all_swept_but}
use Rattle.lock_server.proofs.server.LockServer.release.Goals as goal

pub invariant_of-self : goal.invariant_of-self
invariant_of-self c =
    let table = c.args.self.now.table in
    let came = is_through (through_at c.args.self.now.openings c.args.file) c.args.open_file in
    let closed = c.close.new.table in
    let through = through_at c.close.new.openings in
    let closes = closes_then (table_state table) c.args.file (λ other. false) came c.args.flock_owner (table_state c.release_flock_of.new.self) (table_state closed)
    c.release_flock_of.ensures.closes c.close.ensures.closes in
    let rest = swept _ (table_state closed) c.args.file (table_state c.settle.new.self) (table_state c.sweep.new.self)
    (record { settles = c.settle.ensures.settles; settled = c.settle.ensures.settled }) c.sweep.ensures.same in
    record {
      safe = safe_rested _ table c.sweep.new.self _ (table_state closed) c.args.file c.args.self.now.safe
          (moves_closed (table_state table) c.args.file came c.args.flock_owner (table_state closed) closes) rest;
      swept = all_swept_but table c.sweep.new.self c.args.file
          (λ other differs. c.sweep.ensures.others other differs ∙ c.settle.ensures.others other differs ∙ c.close.ensures.others other differs ∙ c.release_flock_of.ensures.others other differs)
          c.sweep.ensures.gone c.args.self.now.swept;
      kept = kept_tidied_if c.close.new.holdings c.tidy_of.new.self (table_state c.sweep.new.self) through c.args.flock_owner c.args.file c.tidy_of.ensures
          (kept_rested c.close.new.holdings through _ (table_state closed) c.args.file (table_state c.sweep.new.self) rest
          (c.close.ensures.kept
          (kept_moved c.args.self.now.holdings (through_at c.args.self.now.openings) (table_state table) c.args.file (table_state c.release_flock_of.new.self) c.args.self.now.kept
          (moves_closed (table_state table) c.args.file (λ other. false) c.args.flock_owner (table_state c.release_flock_of.new.self) c.release_flock_of.ensures.closes))));
    }

pub returns-clause-closes : goal.returns-clause-closes
unfolding rules_of state_of through_of
returns-clause-closes c =
    let table = c.args.self.now.table in
    let came = is_through (through_at c.args.self.now.openings c.args.file) c.args.open_file in
    let closed = c.close.new.table in
    let closes = closes_then (table_state table) c.args.file (λ other. false) came c.args.flock_owner (table_state c.release_flock_of.new.self) (table_state closed)
    c.release_flock_of.ensures.closes c.close.ensures.closes in
    let rest = swept _ (table_state closed) c.args.file (table_state c.settle.new.self) (table_state c.sweep.new.self)
    (record { settles = c.settle.ensures.settles; settled = c.settle.ensures.settled }) c.sweep.ensures.same in
    record { between = table_state closed; closes = closes; settles = rest.settles }
