use Rattle.lock_server.proofs.Common.{◌∙◌, sym, subst, Option, Mode, flock_request, no_ticket, through_at, rules_of, state_of, table_state}
use Rattle.lock_server.specs.Calls.{FlockOpComesTo}
use Rattle.lock_server.proofs.FlockLemmas.{apart_by_test, flock_from}
use Rattle.lock_server.proofs.HoldingLemmas.{kept_flock, kept_tidied}
use Rattle.lock_server.proofs.ServerLemmas.{safe_same}
use Rattle.lock_server.proofs.SweptLemmas.{all_swept_but}
use Rattle.lock_server.proofs.server.LockServer.flock.Goals as goal

pub returns-clause-ok : goal.returns-clause-ok
unfolding rules_of state_of
returns-clause-ok c =
    let rules = rules_of c.args.self.now in
    let S = state_of c.args.self.now in
    let P = table_state c.place_flock.new.table in
    let T = table_state c.flock-answer.new.table in
    let wanted = flock_request no_ticket c.args.owner c.in-Some.mode in
    let held = c.flock_mode-held.result in
    let differs = apart_by_test held c.in-Some.mode c.eq.result c.eq.ensures c.if-eq.false in
    subst (λ (mode : Option Mode). FlockOpComesTo rules S c.args.file c.args.owner mode c.flock-answer.result T) (sym c.in-Some.is)
    (flock_from rules S P c.args.file wanted held c.flock-answer.result T c.flock_mode-held.ensures differs c.in_ok-place_flock.ensures.same c.flock-answer.ensures.comes_to)

pub invariant_of-self : goal.invariant_of-self
invariant_of-self c =
    let table = c.args.self.now.table in
    let new = c.place_flock.new.table in
    record {
      safe = safe_same _ table new c.place_flock.ensures.same c.args.self.now.safe;
      swept = all_swept_but table new c.args.file c.place_flock.ensures.others (c.in_err-place_flock.ensures.swept (c.args.self.now.swept c.args.file)) c.args.self.now.swept;
      kept = c.place_flock.ensures.kept c.args.self.now.kept;
    }

pub invariant_of-self-2 : goal.invariant_of-self-2
invariant_of-self-2 c =
    let table = c.args.self.now.table in
    let through = through_at c.args.self.now.openings in
    record {
      safe = c.flock-answer.ensures.safe (safe_same _ table c.place_flock.new.table c.place_flock.ensures.same c.args.self.now.safe);
      swept = all_swept_but table c.flock-answer.new.table c.args.file (λ other differs. c.flock-answer.ensures.others other differs ∙ c.place_flock.ensures.others other differs)
          c.flock-answer.ensures.swept c.args.self.now.swept;
      kept = kept_tidied c.place_flock.new.self c.tidy.new.self (table_state c.flock-answer.new.table) through c.args.owner c.args.file c.tidy.ensures
          (kept_flock c.place_flock.new.self through c.args.file (flock_request no_ticket c.args.owner c.in-Some.mode) c.in_ok-place_flock.ensures.entered _ (table_state c.place_flock.new.table)
          c.flock_mode-held.result c.flock-answer.result (table_state c.flock-answer.new.table) (c.place_flock.ensures.kept c.args.self.now.kept) c.flock-answer.ensures.comes_to);
    }
