use Rattle.lock_server.proofs.Common.{subst, Option, Mode, HeldConflicts, file_state}
use Rattle.lock_server.proofs.ExtentLemmas.{none_found}
use Rattle.lock_server.proofs.file.LockFile.has_against.Goals as goal

pub returns-in-Some : goal.returns-in-Some
unfolding file_state
returns-in-Some c = λ none byte covered.
    subst (λ (held : Option Mode). ¬ HeldConflicts held c.args.against) (c.in-Some.ensures byte)
    (none_found c.first_hit.result c.is_some.result _ c.is_some.ensures c.first_hit.ensures.none none byte covered)

pub returns-in-None : goal.returns-in-None
unfolding file_state
returns-in-None c = λ none byte covered. subst (λ (held : Option Mode). ¬ HeldConflicts held c.args.against) (c.in-None.ensures byte) (λ conflict. conflict)
