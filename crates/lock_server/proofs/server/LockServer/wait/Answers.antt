use Rattle.lock_server.proofs.Common.{◌∙◌, inl, inr, refl, subst, sym, Some, [], ◌∷◌, Bytes, Pending, IsRefused, Suspends, WaitComesTo, byte_request, through_at, rules_of, state_of, IsWaitBlocked, State, table_state}
use Rattle.lock_server.specs.declared.WaitAnswer.TheVariants as told
use Rattle.lock_server.proofs.CompatibleLemmas.{free_from_open}
use Rattle.lock_server.proofs.HoldingLemmas.{kept_joined, kept_rested}
use Rattle.lock_server.proofs.SafeLemmas.{moves_given}
use Rattle.lock_server.proofs.ServerLemmas.{ComesToRest, changes_at_rest, safe_after_join, safe_rested, safe_same}
use Rattle.lock_server.proofs.StateLemmas.{SameState-itself, state_from_same}
use Rattle.lock_server.proofs.SweptLemmas.{all_swept_but, bytes_set, swept_with_lock, swept_with_wait}
use Rattle.lock_server.proofs.KnownLemmas.{settled_known}
use Rattle.lock_server.proofs.server.LockServer.wait.Goals.{After-join, After-set, After-settle_among}
use Rattle.lock_server.proofs.server.LockServer.wait.Goals as goal

pub invariant_of-self : goal.invariant_of-self
invariant_of-self c =
    let table = c.args.self.now.table in
    let new = c.set.new.table in
    record {
      safe = safe_same _ table new c.in_err-set.ensures.err c.args.self.now.safe;
      swept = all_swept_but table new c.args.file c.set.ensures.others (c.in_err-set.ensures.swept (c.args.self.now.swept c.args.file)) c.args.self.now.swept;
      kept = c.set.ensures.kept (through_at c.args.self.now.openings) c.args.self.now.kept;
    }

-- nothing blocks the request, and the file came to rest after its set
ready : (c : After-set) → ¬ IsWaitBlocked c.args.self.now.rules.policy ((table_state c.args.self.now.table).files c.args.file)
    ((table_state c.args.self.now.table).files c.args.file).waits (byte_request c.args.ticket c.args.owner c.args.span c.args.mode c.args.detect)
ready c blocked =
    let F = (table_state c.args.self.now.table).files c.args.file in
    let back = c.blocks-2.ensures.1 (subst (λ (w : Pending). IsWaitBlocked c.args.self.now.rules.policy F F.waits w) (sym c.byte_request-wanted.ensures) blocked) in
    let none = c.if-not-blocks.true in cc

rest : (c : After-settle_among) → ComesToRest c.args.self.now.rules.policy (table_state c.set.new.table) c.args.file (table_state c.settle_among.new.self)
rest c = record { settles = c.settle_among.ensures.settles; settled = c.settle_among.ensures.settled }

pub invariant_of-self-then-not-blocks : goal.invariant_of-self-then-not-blocks
invariant_of-self-then-not-blocks c =
    let at = goal.at.invariant_of-self-then-not-blocks c in
    let table = c.args.self.now.table in
    let F = (table_state table).files c.args.file in
    let request = byte_request c.args.ticket c.args.owner c.args.span c.args.mode c.args.detect in
    record {
      safe = safe_rested _ table c.settle_among.new.self (c.args.owner ∷ []) (table_state c.set.new.table) c.args.file c.args.self.now.safe
          (moves_given (table_state table) c.args.file request (table_state c.set.new.table) (free_from_open c.args.self.now.rules.policy F F.waits request (ready at.After-set)) c.in_ok-set.ensures.ok)
          (rest at.After-settle_among);
      swept = all_swept_but table c.settle_among.new.self c.args.file
          (λ other differs. c.settle_among.ensures.others other differs ∙ c.set.ensures.others other differs)
          (swept_with_lock _ (table_state c.set.new.table) c.args.file c.settle_among.new.self
          (bytes_set F c.args.owner c.args.span c.args.mode ((table_state c.set.new.table).files c.args.file) c.requires c.in_ok-set.ensures.ok.sets)
          c.settle_among.ensures.settles)
          c.args.self.now.swept;
      kept = kept_rested c.set.new.self (through_at c.args.self.now.openings) _ (table_state c.set.new.table) c.args.file (table_state c.settle_among.new.self)
          (rest at.After-settle_among) (c.set.ensures.kept (through_at c.args.self.now.openings) c.args.self.now.kept);
    }

pub returns-then-not-blocks-clause-ok : goal.returns-then-not-blocks-clause-ok
unfolding rules_of state_of
returns-then-not-blocks-clause-ok c =
    let at = goal.at.returns-then-not-blocks-clause-ok c in
    inr (
      ready at.After-set,
      (refl, changes_at_rest _ (table_state c.args.self.now.table) c.args.file Bytes c.args.owner c.args.span (Some c.args.mode) _ _ c.in_ok-set.ensures.ok (rest at.After-settle_among)),
    )

pub invariant_of-self-in-Break-branch-3 : goal.invariant_of-self-in-Break-branch-3
invariant_of-self-in-Break-branch-3 c =
    let table = c.args.self.now.table in
    let new = c.reserve.new.table in
    record {
      safe = safe_same _ table new c.reserve.ensures.same c.args.self.now.safe;
      swept = all_swept_but table new c.args.file c.reserve.ensures.others (c.in_err-reserve.ensures.swept (c.args.self.now.swept c.args.file)) c.args.self.now.swept;
      kept = c.reserve.ensures.kept c.args.self.now.kept;
    }

-- the request is blocked and closes no cycle, and has joined the waits
waits : (c : After-join) → IsWaitBlocked c.args.self.now.rules.policy ((table_state c.args.self.now.table).files c.args.file)
    ((table_state c.args.self.now.table).files c.args.file).waits c.byte_request-wanted.result
    × (¬ IsRefused c.args.self.now.rules.policy (table_state c.args.self.now.table) c.args.file c.byte_request-wanted.result)
    × Suspends (table_state c.args.self.now.table) c.args.file c.byte_request-wanted.result (table_state c.join.new.self)
unfolding rules_of state_of
waits c = (
  c.blocks-2.ensures.0 c.if-not-blocks.false,
  λ refused. (let back = c.in_ok-closes_cycle.ensures.1 refused in let none = c.if-branch.false in cc),
  subst (λ (U : State). Suspends U c.args.file c.byte_request-wanted.result (table_state c.join.new.self))
      (state_from_same (table_state c.args.self.now.table) (table_state c.reserve.new.table) c.reserve.ensures.same) c.join.ensures.suspends,
)

pub invariant_of-self-2 : goal.invariant_of-self-2
invariant_of-self-2 c =
    let table = c.args.self.now.table in
    let (blocked, passed, suspends) = waits (goal.at.invariant_of-self-2 c).After-join in
    record {
      safe = safe_after_join _ table c.join.new.self c.args.file c.byte_request-wanted.result c.args.self.now.safe suspends blocked passed;
      swept = all_swept_but table c.join.new.self c.args.file (λ other differs. c.join.ensures.others other differs ∙ c.reserve.ensures.others other differs)
          (swept_with_wait c.join.new.self c.args.file _ _ c.join.ensures.suspends.joins.waits) c.args.self.now.swept;
      kept = kept_joined c.reserve.new.self (through_at c.args.self.now.openings) (table_state c.reserve.new.table) c.args.file c.byte_request-wanted.result (table_state c.join.new.self)
          (c.reserve.ensures.kept c.args.self.now.kept) c.in_ok-reserve.ensures.entered c.join.ensures.suspends;
    }

-- the request is blocked and would close a cycle: nothing has changed
pub returns-then-branch-clause-ok : goal.returns-then-branch-clause-ok
unfolding rules_of state_of
returns-then-branch-clause-ok c =
    let table = c.args.self.now.table in
    let refused = c.in_ok-closes_cycle.ensures.0 c.if-branch.true in
    subst (λ (w : Pending). WaitComesTo c.args.self.now.rules.policy (table_state table) c.args.file w told.Deadlock (table_state table)) c.byte_request-wanted.ensures
    (inl (c.blocks-2.ensures.0 c.if-not-blocks.false, inl (refused, (refl, SameState-itself (table_state table)))))

pub returns-clause-ok : goal.returns-clause-ok
unfolding rules_of state_of
returns-clause-ok c =
    let (blocked, passed, suspends) = waits (goal.at.returns-clause-ok c).After-join in
    subst (λ (w : Pending). WaitComesTo c.args.self.now.rules.policy (table_state c.args.self.now.table) c.args.file w told.Waits (table_state c.join.new.self)) c.byte_request-wanted.ensures
    (inl (blocked, inr (passed, (refl, suspends))))

pub settle_among-requires : goal.settle_among-requires
settle_among-requires c =
    let table = c.args.self.now.table in
    let G = (table_state c.set.new.table).files c.args.file in
    let sets = c.in_ok-set.ensures.ok in
    c.freed_by_set-freed.ensures G sets.sets sets.waits (settled_known _ table c.args.file c.args.self.now.safe)
