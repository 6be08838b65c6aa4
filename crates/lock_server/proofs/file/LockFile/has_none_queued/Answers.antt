use Rattle.lock_server.proofs.Common.{◌≡◌, ◌==◌, subst, arith, common_steps, eq-eqb, IsPlaceFrom, is_of_kind, file_state}
use Rattle.std.proofs.Common.{◌&&◌}
use Rattle.lock_server.specs.declared.asking.Kind.TheVariants.{Any}
use Rattle.lock_server.proofs.PlaceFromLemmas.{none_at_all, none_before}
use Rattle.lock_server.proofs.file.LockFile.has_none_queued.Goals as goal

pub returns-in-Some : goal.returns-in-Some
returns-in-Some c = λ told queue.
    let waits = (file_state c.args.self.now).waits in
    let owner = c.args.owner in
    let found = subst (IsPlaceFrom (λ wait. is_of_kind Any wait && (wait.owner == owner)) 0 waits) c.in-Some.is c.first_of.ensures.first in
    none_before (λ wait. is_of_kind Any wait && (wait.owner == owner)) (λ wait. wait.owner ≡ owner) (λ wait is. eq-eqb wait.owner owner is) waits c.in-Some.place c.args.before found
    (grind (arith, common_steps))

pub returns-in-None : goal.returns-in-None
returns-in-None c = λ told queue.
    let waits = (file_state c.args.self.now).waits in
    let owner = c.args.owner in
    let found = subst (IsPlaceFrom (λ wait. is_of_kind Any wait && (wait.owner == owner)) 0 waits) c.in-None.is c.first_of.ensures.first in
    none_at_all (λ wait. is_of_kind Any wait && (wait.owner == owner)) (λ wait. wait.owner ≡ owner) (λ wait is. eq-eqb wait.owner owner is) waits c.args.before found
