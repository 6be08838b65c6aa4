use Rattle.lock_server.proofs.Common.{ℕ, ◌∙◌, sym, subst, Contains, arith, common_steps, same_Some, Pending, IsNextDetected, IsNoneDetected, table_state}
use Rattle.lock_server.proofs.BlockerLemmas.{IsStepAt}
use Rattle.lock_server.proofs.FollowLemmas.{given_none, wait_more, waits_all, waits_up_to}
use Rattle.lock_server.proofs.table.Table.follow_on.Goals as goal

pub loop-place-init : goal.loop-place-init
loop-place-init c =
    given_none c.args.self.now c.args.target (IsStepAt c.args.policy ((table_state c.args.self.now).files c.args.file) c.args.owner)
    ((table_state c.args.self.now).files c.args.file).waits c.args.reached.now c.requires.told

pub follow_at-requires : goal.follow_at-requires
follow_at-requires c =
    let next : IsNextDetected ((table_state c.args.self.now).files c.args.file).waits c.args.owner c.loop-place.from c.in-Some.place = c.in-Some.ensures.some in
    let found = next.is in
    record {
      told = c.loop-place.invariant.told;
      among = λ wait at.
          subst (λ (w : Pending). Contains c.loop-place.reached.owners.items w.owner) (same_Some found.0 wait (sym found.1 ∙ at))
          (subst (λ (n : ℕ). Contains c.loop-place.reached.owners.items n) (sym found.3)
          (c.loop-place.invariant.adds.adds.kept c.args.owner c.requires.among));
    }

pub loop-place-preserved : goal.loop-place-preserved
loop-place-preserved c =
    let table = c.args.self.now in
    let next : IsNextDetected ((table_state table).files c.args.file).waits c.args.owner c.loop-place.from c.in-Some.place = c.in-Some.ensures.some in
    let found = next.is in
    wait_more c.args.policy table c.args.target c.args.file c.args.owner c.args.reached.now c.in-Some.place found.0 c.loop-place.reached c.follow_at.new.reached found.1 found
    (waits_up_to c.args.policy table c.args.target c.args.file c.args.owner c.args.reached.now c.loop-place.from c.in-Some.place c.loop-place.reached next
    c.loop-place.invariant) (c.in_ok-follow_at.ensures found.0 found.1)

pub loop-place-smaller : goal.loop-place-smaller
loop-place-smaller c =
    let late = c.in-Some.ensures.some.at_or_behind in
    let behind = c.in-Some.ensures.behind in
    grind (arith, common_steps)

pub returns : goal.returns
returns c =
    let none : IsNoneDetected ((table_state c.args.self.now).files c.args.file).waits c.args.owner c.loop-place.from = c.in_default.ensures.none in
    waits_all c.args.policy c.args.self.now c.args.target c.args.file c.args.owner c.args.reached.now c.loop-place.from c.loop-place.reached none c.loop-place.invariant
