use Rattle.lock_server.proofs.Common.{◌≡◌, sym, subst, Option, Some, Mode, file_state, TakesNothing}
use Rattle.lock_server.proofs.FreedLemmas.{takes_nothing_by_unlock}
use Rattle.lock_server.proofs.file.LockFile.takes.Goals as goal

pub returns-in-Some : goal.returns-in-Some
returns-in-Some c = λ none.
    let is : c.args.mode ≡ Some c.in-Some.mode = c.in-Some.is in
    subst (λ (mode : Option Mode). TakesNothing (file_state c.args.self.now) c.args.owner c.args.span mode) (sym is) (c.lessens.ensures none)

pub returns-in-None : goal.returns-in-None
returns-in-None c = λ none.
    takes_nothing_by_unlock (file_state c.args.self.now) c.args.owner c.args.span c.args.mode c.in-None.is (c.has_against.ensures none)
