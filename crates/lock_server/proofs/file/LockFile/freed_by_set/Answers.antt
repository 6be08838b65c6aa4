use Rattle.lock_server.proofs.Common.{sym, subst, Option, Mode, Bytes, Policy, Nobody, Of, file_state, SetFrees, TakesNothing}
use Rattle.lock_server.proofs.FreedLemmas.{set_frees_nobody, set_frees_own, set_frees_there, unlock_frees_nobody}
use Rattle.lock_server.proofs.file.LockFile.freed_by_set.Goals as goal

pub returns-then-is_empty : goal.returns-then-is_empty
returns-then-is_empty c = set_frees_there c.args.policy (file_state c.args.self.now) c.args.owner c.args.span c.args.mode

pub returns-in-Held : goal.returns-in-Held
returns-in-Held c =
    let F = file_state c.args.self.now in
    subst (λ (policy : Policy). SetFrees policy F c.args.owner c.args.span c.args.mode Nobody) (sym c.in-Held.is)
    (set_frees_nobody F c.args.owner c.args.span c.args.mode (c.takes.ensures c.if-takes.false))

pub returns-in-Some : goal.returns-in-Some
returns-in-Some c =
    let F = file_state c.args.self.now in
    subst (λ (policy : Policy). SetFrees policy F c.args.owner c.args.span c.args.mode (Of c.args.owner (record { family = Bytes; span = c.args.span }))) (sym c.in-Queue.is)
    (set_frees_own F c.args.owner c.args.span c.args.mode (c.takes.ensures c.if-takes.false))

pub returns-in-None : goal.returns-in-None
returns-in-None c =
    let F = file_state c.args.self.now in
    subst (λ (mode : Option Mode). SetFrees c.args.policy F c.args.owner c.args.span mode Nobody) (sym c.in-None.is)
    (unlock_frees_nobody c.args.policy F c.args.owner c.args.span
    (subst (λ (mode : Option Mode). TakesNothing F c.args.owner c.args.span mode) c.in-None.is (c.takes.ensures c.if-takes.false)))
