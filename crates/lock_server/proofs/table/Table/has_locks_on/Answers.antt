use Rattle.lock_server.proofs.Common.{◌≡◌, ◌∙◌, ap, sym, subst, true, false, option_copied, HaveLocksOn, state_at, FileState, untouched, entry_of, table_state}
use Rattle.lock_server.proofs.HasLockLemmas.{none_untouched}
use Rattle.lock_server.proofs.StateLemmas.{SameFile-itself}
use Rattle.lock_server.proofs.table.Table.has_locks_on.Goals as goal

pub returns-in-None : goal.returns-in-None
unfolding table_state entry_of
returns-in-None c = (
  λ impossible. absurd (let h : false ≡ true = impossible in cc),
  λ have. absurd (none_untouched untouched c.args.owners.first c.args.owners.last (SameFile-itself untouched)
      (subst (λ (F : FileState). HaveLocksOn F c.args.owners.first c.args.owners.last)
      (ap state_at (sym c.get.ensures.value ∙ ap option_copied c.in-None.is)) have)),
)
