use Rattle.lock_server.proofs.Common.{◌≡◌, List, None, Some, subst, sym, AllPairs, Lock}
use Rattle.lock_server.specs.Ordered.{IsLockBefore}
use Rattle.lock_server.proofs.import.parts.FilePart.unordered.Goals as goal

pub returns-in-Some : goal.returns-in-Some
returns-in-Some c = λ order.
    let h : Some c.in-Some.place ≡ None =
    c.in-Some.ensures (subst (λ (l : List Lock). AllPairs IsLockBefore l) (sym c.deref.ensures.value) order.locks) in absurd (cc)
