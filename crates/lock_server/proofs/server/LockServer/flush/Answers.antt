use Rattle.lock_server.proofs.Common.{arith, ◌∙◌, common_steps, Bytes, through_at, rules_of, state_of, table_state}
use Rattle.lock_server.proofs.HoldingLemmas.{kept_moved, kept_rested, kept_tidied, kept_unseen, unseen_on}
use Rattle.lock_server.proofs.SafeLemmas.{moves_released}
use Rattle.lock_server.proofs.ServerLemmas.{releases_at_rest, safe_rested, swept}
use Rattle.lock_server.proofs.SweptLemmas.{all_swept_but}
use Rattle.lock_server.proofs.KnownLemmas.{settled_known}
use Rattle.lock_server.proofs.server.LockServer.flush.Goals as goal

pub invariant_of-self : goal.invariant_of-self
invariant_of-self c =
    let table = c.args.self.now.table in
    let through = through_at c.args.self.now.openings in
    let rest = swept _ (table_state c.release.new.self) c.args.file (table_state c.settle_among.new.self) (table_state c.sweep.new.self)
    (record { settles = c.settle_among.ensures.settles; settled = c.settle_among.ensures.settled }) c.sweep.ensures.same in
    record {
      safe = safe_rested _ table c.sweep.new.self _ (table_state c.release.new.self) c.args.file c.args.self.now.safe
          (moves_released (table_state table) c.args.file Bytes c.args.owner (table_state c.release.new.self) c.release.ensures.releases) rest;
      swept = all_swept_but table c.sweep.new.self c.args.file
          (λ other differs. c.sweep.ensures.others other differs ∙ c.settle_among.ensures.others other differs ∙ c.release.ensures.others other differs)
          c.sweep.ensures.gone c.args.self.now.swept;
      kept = kept_tidied c.args.self.now.holdings c.tidy.new.self (table_state c.sweep.new.self) (through_at c.forget.new.self) c.args.owner c.args.file c.tidy.ensures
          (kept_unseen c.args.self.now.holdings (table_state c.sweep.new.self) through (through_at c.forget.new.self)
          (unseen_on through (through_at c.forget.new.self) c.args.file c.args.owner c.forget.ensures)
          (kept_rested c.args.self.now.holdings through _ (table_state c.release.new.self) c.args.file (table_state c.sweep.new.self) rest
          (kept_moved c.args.self.now.holdings through (table_state table) c.args.file (table_state c.release.new.self) c.args.self.now.kept
          (moves_released (table_state table) c.args.file Bytes c.args.owner (table_state c.release.new.self) c.release.ensures.releases))));
    }

pub returns-clause-flushes : goal.returns-clause-flushes
unfolding rules_of state_of
returns-clause-flushes c = grind (arith, common_steps, swept, releases_at_rest)

pub settle_among-requires : goal.settle_among-requires
settle_among-requires c =
    let table = c.args.self.now.table in
    let G = (table_state c.release.new.self).files c.args.file in
    let releases = c.release.ensures.releases in
    c.freed_by_release-freed.ensures _ G releases.unlocks releases.waits (settled_known _ table c.args.file c.args.self.now.safe)
