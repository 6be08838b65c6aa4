use Rattle.lock_server.proofs.Common.{◌∙◌, subst, Pending, FlockWaitFrom, flock_request, through_at, rules_of, state_of, table_state}
use Rattle.lock_server.proofs.FlockLemmas.{apart_by_test, flock_wait_from}
use Rattle.lock_server.proofs.HoldingLemmas.{kept_flock_wait}
use Rattle.lock_server.proofs.ServerLemmas.{safe_same}
use Rattle.lock_server.proofs.SweptLemmas.{all_swept_but}
use Rattle.lock_server.proofs.server.LockServer.flock_wait.Goals as goal

pub returns-clause-ok : goal.returns-clause-ok
unfolding rules_of state_of
returns-clause-ok c =
    let rules = rules_of c.args.self.now in
    let S = state_of c.args.self.now in
    let P = table_state c.reserve.new.table in
    let T = table_state c.flock_wait.new.table in
    let wanted = flock_request c.args.ticket c.args.owner c.args.mode in
    let held = c.flock_mode-held.result in
    let differs = apart_by_test held c.args.mode c.eq.result c.eq.ensures c.if-eq.false in
    let as_asked = subst (λ (w : Pending). FlockWaitFrom rules P c.args.file w held c.flock_wait.result T)
    c.flock_request-wanted.ensures c.flock_wait.ensures.comes_to in
    flock_wait_from rules S P c.args.file wanted held c.flock_wait.result T c.flock_mode-held.ensures differs c.in_ok-reserve.ensures.same as_asked

pub invariant_of-self : goal.invariant_of-self
invariant_of-self c =
    let table = c.args.self.now.table in
    let new = c.reserve.new.table in
    record {
      safe = safe_same _ table new c.reserve.ensures.same c.args.self.now.safe;
      swept = all_swept_but table new c.args.file c.reserve.ensures.others (c.in_err-reserve.ensures.swept (c.args.self.now.swept c.args.file)) c.args.self.now.swept;
      kept = c.reserve.ensures.kept c.args.self.now.kept;
    }

pub invariant_of-self-2 : goal.invariant_of-self-2
invariant_of-self-2 c =
    let table = c.args.self.now.table in
    record {
      safe = c.flock_wait.ensures.safe (safe_same _ table c.reserve.new.table c.reserve.ensures.same c.args.self.now.safe);
      swept = all_swept_but table c.flock_wait.new.table c.args.file (λ other differs. c.flock_wait.ensures.others other differs ∙ c.reserve.ensures.others other differs)
          c.flock_wait.ensures.swept c.args.self.now.swept;
      kept = kept_flock_wait c.reserve.new.self (through_at c.args.self.now.openings) c.args.file c.flock_request-wanted.result c.in_ok-reserve.ensures.entered _
          (table_state c.reserve.new.table) c.flock_mode-held.result c.flock_wait.result (table_state c.flock_wait.new.table) (c.reserve.ensures.kept c.args.self.now.kept)
          c.flock_wait.ensures.comes_to;
    }
