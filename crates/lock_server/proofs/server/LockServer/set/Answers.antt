use Rattle.lock_server.proofs.Common.{◌∙◌, Bytes, given_by, through_at, rules_of, state_of, table_state}
use Rattle.lock_server.proofs.HoldingLemmas.{kept_rested, kept_tidied_if}
use Rattle.lock_server.proofs.ServerLemmas.{changes_at_rest, moves_set, safe_rested, safe_same, set_done, swept}
use Rattle.lock_server.proofs.SweptLemmas.{all_swept_but}
use Rattle.lock_server.proofs.KnownLemmas.{settled_known}
use Rattle.lock_server.proofs.server.LockServer.set.Goals as goal

pub invariant_of-self : goal.invariant_of-self
invariant_of-self c =
    let table = c.args.self.now.table in
    let new = c.set.new.table in
    record {
      safe = safe_same _ table new c.in_err-set.ensures.err c.args.self.now.safe;
      swept = all_swept_but table new c.args.file c.set.ensures.others (c.in_err-set.ensures.swept (c.args.self.now.swept c.args.file)) c.args.self.now.swept;
      kept = c.set.ensures.kept (through_at c.args.self.now.openings) c.args.self.now.kept;
    }

pub invariant_of-self-2 : goal.invariant_of-self-2
unfolding state_of
invariant_of-self-2 c =
    let table = c.args.self.now.table in
    let rest = swept _ (table_state c.set.new.table) c.args.file (table_state c.settle_among.new.self) (table_state c.sweep.new.self)
    (record { settles = c.settle_among.ensures.settles; settled = c.settle_among.ensures.settled }) c.sweep.ensures.same in record {
      safe = safe_rested _ table c.sweep.new.self (given_by c.args.owner c.args.mode) (table_state c.set.new.table) c.args.file c.args.self.now.safe
          (moves_set (table_state table) c.args.file c.args.owner c.args.span c.args.mode (table_state c.set.new.table)
          (λ held. let back = c.is_held_back.ensures.1 held in let none = c.if-is_held_back.false in cc) c.in_ok-set.ensures.ok) rest;
      swept = all_swept_but table c.sweep.new.self c.args.file
          (λ other differs. c.sweep.ensures.others other differs ∙ c.settle_among.ensures.others other differs ∙ c.set.ensures.others other differs)
          c.sweep.ensures.gone c.args.self.now.swept;
      kept = kept_tidied_if c.set.new.self c.tidy_of.new.self (table_state c.sweep.new.self) (through_at c.args.self.now.openings) c.then_some-unlocked.result c.args.file c.tidy_of.ensures
          (kept_rested c.set.new.self (through_at c.args.self.now.openings) _ (table_state c.set.new.table) c.args.file (table_state c.sweep.new.self) rest
          (c.set.ensures.kept (through_at c.args.self.now.openings) c.args.self.now.kept));
    }

pub returns-clause-ok : goal.returns-clause-ok
unfolding rules_of state_of
returns-clause-ok c =
    let table = c.args.self.now.table in
    let rest = swept _ (table_state c.set.new.table) c.args.file (table_state c.settle_among.new.self) (table_state c.sweep.new.self)
    (record { settles = c.settle_among.ensures.settles; settled = c.settle_among.ensures.settled }) c.sweep.ensures.same in
    set_done _ (table_state table) c.args.file c.args.owner c.args.span c.args.mode (table_state c.sweep.new.self)
    (λ held. let back = c.is_held_back.ensures.1 held in let none = c.if-is_held_back.false in cc)
    (changes_at_rest _ (table_state table) c.args.file Bytes c.args.owner c.args.span c.args.mode (table_state c.set.new.table) (table_state c.sweep.new.self) c.in_ok-set.ensures.ok rest)

pub settle_among-requires : goal.settle_among-requires
settle_among-requires c =
    let table = c.args.self.now.table in
    let G = (table_state c.set.new.table).files c.args.file in
    let sets = c.in_ok-set.ensures.ok in
    c.freed_by_set-freed.ensures G sets.sets sets.waits (settled_known _ table c.args.file c.args.self.now.safe)
