use Rattle.lock_server.proofs.Common.{◌∙◌, inl, refl, [], through_at, rules_of, state_of, table_state}
use Rattle.lock_server.proofs.HoldingLemmas.{kept_moved, kept_rested, kept_same, kept_tidied}
use Rattle.lock_server.proofs.SafeLemmas.{moves_left}
use Rattle.lock_server.proofs.ServerLemmas.{safe_rested, swept}
use Rattle.lock_server.proofs.SweptLemmas.{all_swept, all_swept_but}
use Rattle.lock_server.proofs.KnownLemmas.{settled_known}
use Rattle.lock_server.proofs.server.LockServer.cancel.Goals as goal

pub invariant_of-self-in-None-clause-swept : goal.invariant_of-self-in-None-clause-swept
invariant_of-self-in-None-clause-swept c = all_swept c.args.self.now.table c.cancel.new.self c.in-None.ensures.entries c.args.self.now.swept

pub invariant_of-self-in-None-clause-kept : goal.invariant_of-self-in-None-clause-kept
invariant_of-self-in-None-clause-kept c =
    kept_same c.args.self.now.holdings (through_at c.args.self.now.openings) (table_state c.args.self.now.table) (table_state c.cancel.new.self) c.in-None.ensures.none.1
    c.args.self.now.kept

pub invariant_of-self : goal.invariant_of-self
invariant_of-self c =
    let table = c.args.self.now.table in
    let through = through_at c.args.self.now.openings in
    let file = c.in-Some.file in
    let rest = swept _ (table_state c.cancel.new.self) file (table_state c.settle_among.new.self) (table_state c.sweep.new.self)
    (record { settles = c.settle_among.ensures.settles; settled = c.settle_among.ensures.settled }) c.sweep.ensures.same in record {
      safe = safe_rested _ table c.sweep.new.self [] (table_state c.cancel.new.self) file c.args.self.now.safe
          (moves_left (table_state table) file c.args.ticket (table_state c.cancel.new.self) c.in-Some.ensures.some) rest;
      swept = all_swept_but table c.sweep.new.self file
          (λ other differs. c.sweep.ensures.others other differs ∙ c.settle_among.ensures.others other differs ∙ c.in-Some.ensures.others other differs)
          c.sweep.ensures.gone c.args.self.now.swept;
      kept = kept_tidied c.args.self.now.holdings c.tidy.new.self (table_state c.sweep.new.self) through c.in-Some.wait.owner file c.tidy.ensures
          (kept_rested c.args.self.now.holdings through _ (table_state c.cancel.new.self) file (table_state c.sweep.new.self) rest
          (kept_moved c.args.self.now.holdings through (table_state table) file (table_state c.cancel.new.self) c.args.self.now.kept
          (moves_left (table_state table) file c.args.ticket (table_state c.cancel.new.self) c.in-Some.ensures.some)));
    }

pub returns-in-Some-clause-comes_to : goal.returns-in-Some-clause-comes_to
unfolding rules_of state_of
returns-in-Some-clause-comes_to c =
    let table = c.args.self.now.table in
    let file = c.in-Some.file in
    let rest = swept _ (table_state c.cancel.new.self) file (table_state c.settle_among.new.self) (table_state c.sweep.new.self)
    (record { settles = c.settle_among.ensures.settles; settled = c.settle_among.ensures.settled }) c.sweep.ensures.same in
    inl (refl, record { file = file; between = table_state c.cancel.new.self; leaves = c.in-Some.ensures.some; settles = rest.settles })

pub settle_among-requires : goal.settle_among-requires
settle_among-requires c =
    let table = c.args.self.now.table in
    let file = c.in-Some.file in
    let left = c.in-Some.ensures.wait in
    let F = (table_state table).files file in
    let G = (table_state c.cancel.new.self).files file in
    c.by_leaving-freed.ensures F G left.1 left.2 left.3 (settled_known _ table file c.args.self.now.safe)
