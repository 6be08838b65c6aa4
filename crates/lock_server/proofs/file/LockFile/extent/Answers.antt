use Rattle.lock_server.proofs.Common.{◌≡◌, ℕ, None, sym, subst, IfNone, IfSome, modes_of, Covers, Modes, file_state}
use Rattle.lock_server.proofs.ExtentLemmas.{modes_from_same}
use Rattle.lock_server.proofs.file.LockFile.extent.Goals as goal

pub returns-in-Some-clause-some : goal.returns-in-Some-clause-some
unfolding file_state
returns-in-Some-clause-some c =
    subst (λ (modes : Modes). IfSome c.extent.result (λ span. (byte : ℕ) → (¬ Covers span byte) → modes byte ≡ None))
    (modes_from_same (modes_of c.in-Some.list.now) ((file_state c.args.self.now).bytes c.args.owner) c.in-Some.ensures) c.extent.ensures.some

pub returns-in-Some-clause-none : goal.returns-in-Some-clause-none
unfolding file_state
returns-in-Some-clause-none c =
    subst (λ (modes : Modes). IfNone c.extent.result ((byte : ℕ) → modes byte ≡ None))
    (modes_from_same (modes_of c.in-Some.list.now) ((file_state c.args.self.now).bytes c.args.owner) c.in-Some.ensures) c.extent.ensures.none

pub returns-in-None-clause-none : goal.returns-in-None-clause-none
unfolding file_state
returns-in-None-clause-none c = λ byte. sym (c.in-None.ensures byte)
