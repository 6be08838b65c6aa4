use Rattle.lock_server.proofs.Common.{subst, arith, common_steps, IsPlaceFrom, are_conflicting, file_state}
use Rattle.lock_server.specs.Asking.{NoneConflicts}
use Rattle.lock_server.proofs.ConflictingLemmas.{next_conflict, none_further, none_so_far}
use Rattle.lock_server.proofs.file.LockFile.next_conflicting.Goals as goal

pub returns-in_err-place-clause-none : goal.returns-in_err-place-clause-none
unfolding file_state
returns-in_err-place-clause-none c =
    let waits = c.args.self.now.waits.items in
    let found = subst (IsPlaceFrom (λ other. are_conflicting other c.args.wait.now) c.args.from waits) c.in_err-place.was c.place_from.ensures in
    let none : NoneConflicts waits c.args.wait.now c.args.from c.args.before = none_further waits c.args.wait.now c.args.from c.args.before found in
    grind (arith, common_steps)

pub returns-then-before-place-clause-none : goal.returns-then-before-place-clause-none
unfolding file_state
returns-then-before-place-clause-none c =
    let waits = c.args.self.now.waits.items in
    let found = subst (IsPlaceFrom (λ other. are_conflicting other c.args.wait.now) c.args.from waits) c.in_ok-place.was c.place_from.ensures in
    none_so_far waits c.args.wait.now c.args.from c.args.before c.in_ok-place.place found (let past = c.if-before-place.true in omega (arith, past))

pub returns-clause-some : goal.returns-clause-some
unfolding file_state
returns-clause-some c =
    let waits = c.args.self.now.waits.items in
    let found = subst (IsPlaceFrom (λ other. are_conflicting other c.args.wait.now) c.args.from waits) c.in_ok-place.was c.place_from.ensures in
    next_conflict waits c.args.wait.now c.args.from c.args.before c.in_ok-place.place found (let early = c.if-before-place.false in omega (arith, early))
