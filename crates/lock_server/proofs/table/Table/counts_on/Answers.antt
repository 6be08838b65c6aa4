use Rattle.lock_server.proofs.Common.{◌∙◌, ap, sym, subst, option_copied, told, state_at, FileState, entry_of, table_state}
use Rattle.lock_server.specs.Counting.{AreCountsOn}
use Rattle.lock_server.proofs.CountLemmas.{flock_locks_untouched, runs_untouched}
use Rattle.lock_server.proofs.table.Table.counts_on.Goals as goal

pub returns-in-None : goal.returns-in-None
unfolding table_state entry_of
returns-in-None c =
    subst (λ (F : FileState). AreCountsOn F c.args.owners.first c.args.owners.last c.none.result)
    (sym (ap state_at (sym c.get.ensures.value ∙ ap option_copied c.in-None.is)))
    (record {
      runs = c.none.ensures.runs ∙ sym (ap told (runs_untouched c.args.owners.first c.args.owners.last));
      flock_locks = c.none.ensures.flock_locks ∙ sym (ap told (flock_locks_untouched c.args.owners.first c.args.owners.last));
      waits = c.none.ensures.waits;
    })
