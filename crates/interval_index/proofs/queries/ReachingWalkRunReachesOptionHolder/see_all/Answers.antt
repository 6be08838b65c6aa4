use Rattle.interval_index.proofs.Common.{◌≤◌, ◌++◌, Option, sym, ap, ◌∙◌, subst, arith, Holder, has_by, IsLeastOf}
use Rattle.interval_index.proofs.Leasts.{all_taken, no_lesser, passed_by}
use Rattle.interval_index.proofs.queries.ReachingWalkRunReachesOptionHolder.see_all.Goals as goal

pub returns-then-not-may_hit-clause-all : goal.returns-then-not-may_hit-clause-all
returns-then-not-may_hit-clause-all c seen items told tells _ =
    passed_by c.args.self.now c.args.least.now seen items (sym (c.may_hit.ensures items tells) ∙ c.if-not-may_hit.true) told

pub returns-then-is_as_early-clause-all : goal.returns-then-is_as_early-clause-all
returns-then-is_as_early-clause-all c seen items told tells _ =
    no_lesser c.args.self.now c.args.least.now c.args.reaches.now.least seen items tells.least
    (λ bound h. c.is_as_early.ensures.yes c.if-is_as_early.true bound (ap (λ o. has_by o bound) c.other_than-other.ensures ∙ h)) told

pub returns-then-self-last-clause-all : goal.returns-then-self-last-clause-all
returns-then-self-last-clause-all c seen items told tells _ =
    let w = c.conflicts_with.ensures.0 c.if-conflicts_with.true in
    let r : c.args.self.now.byte ≤ c.args.reaches.now.least.last = omega arith in
    subst (λ (o : Option Holder). IsLeastOf c.args.self.now o (seen ++ items)) (sym c.other_than-other.ensures)
    (all_taken c.args.self.now c.args.least.now c.args.reaches.now.least seen items w r tells.least
    (λ bound h. ap (λ o. has_by o bound) (sym c.other_than-other.ensures) ∙ c.is_as_early.ensures.no c.if-is_as_early.false bound h) told)
