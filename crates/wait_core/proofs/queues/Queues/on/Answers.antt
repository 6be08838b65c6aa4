use Rattle.wait_core.proofs.Common.{ℕ, ◌≡◌, ◌∙◌, sym, subst, Option, List, Wait, IsLed, first_process, follow, latest_on, links_in}
use Rattle.wait_core.specs.Links.{row_at}
use Rattle.wait_core.proofs.LinkLemmas.{followed, led}
use Rattle.wait_core.proofs.queues.Queues.on.Goals as goal

pub returns : goal.returns
unfolding latest_on links_in
returns c queues are fits =
    let self = c.args.self.now in
    let waits = queues c.args.file in
    subst (λ (next : Option ℕ). follow (row_at c.deref.result.now) (row_at c.deref-2.result.now) 64 next ≡ waits) (sym (c.latest.ensures ∙ are.latest c.args.file))
    (subst (λ (rows : List (Option Wait)). follow (row_at rows) (row_at c.deref-2.result.now) 64 (first_process waits) ≡ waits) (sym c.deref.ensures.value)
    (subst (λ (rows : List (Option ℕ)). follow (row_at self.waits.items) (row_at rows) 64 (first_process waits) ≡ waits) (sym c.deref-2.ensures.value)
    (followed (links_in self) c.args.file _ waits 64 fits (are.lead c.args.file))))

pub invariant_of-result : goal.invariant_of-result
unfolding latest_on links_in
invariant_of-result c =
    let self = c.args.self.now in
    let (queues, are, fits) = c.requires in
    let waits = queues c.args.file in (
      c.deref.ensures.len ∙ self.waits_of_processes,
      c.deref-2.ensures.len ∙ self.before_processes,
      subst (λ (next : Option ℕ). IsLed (row_at c.deref.result.now) (row_at c.deref-2.result.now) 64 next) (sym (c.latest.ensures ∙ are.latest c.args.file))
          (subst (λ (rows : List (Option Wait)). IsLed (row_at rows) (row_at c.deref-2.result.now) 64 (first_process waits)) (sym c.deref.ensures.value)
          (subst (λ (rows : List (Option ℕ)). IsLed (row_at self.waits.items) (row_at rows) 64 (first_process waits)) (sym c.deref-2.ensures.value)
          (led (links_in self) c.args.file _ waits 64 fits (are.lead c.args.file)))),
    )
