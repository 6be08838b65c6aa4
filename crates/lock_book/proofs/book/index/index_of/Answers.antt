use Rattle.lock_book.proofs.Common.{◌∙◌, true, sym, subst, List, deref_pair, iter_end, Run, AreRunsWhere, holder_modes, modes_among}
use Rattle.lock_book.proofs.IndexedLemmas.{IsOfItems, all_indexed, each_held, kept_put, modes_of_next, more_indexed}
use Rattle.lock_book.proofs.book.index.index_of.Goals as goal

pub loop-owner-preserved : goal.loop-owner-preserved
loop-owner-preserved c =
    let entries = c.args.owners.now in
    let gives = c.into_iter-owner-iterator.ensures.into_iter_gives ∙ c.iter-owner-items.ensures.lists in
    let same = modes_of_next c.args.owners.now c.loop-owner.yielded _ _ _ _ (c.in-Some.owner, c.in-Some.list) gives c.loop-owner.yielded_by c.in-Some.is c.next.ensures.steps c.iter-owner-items.ensures.found in (
      tt,
      tt,
      more_indexed entries c.loop-owner.yielded (c.in-Some.owner, c.in-Some.list) c.runs.result c.add_runs.new.index.runs same c.runs.ensures.runs
          (c.add_runs.ensures c.if-not-add_runs.false (holder_modes (modes_among entries)) (IsOfItems entries c.loop-owner.yielded)
          (each_held (modes_among entries) c.in-Some.owner.now c.in-Some.list.now same c.runs.result c.runs.ensures.runs.each) c.loop-owner.invariant.2),
    )

pub returns : goal.returns
returns c =
    let entries = c.args.owners.now in
    let gives = c.into_iter-owner-iterator.ensures.into_iter_gives ∙ c.iter-owner-items.ensures.lists in
    let whole = (iter_end deref_pair entries c.loop-owner.yielded _ _ _ _ gives c.loop-owner.yielded_by c.in-None.is c.next.ensures.steps).0 in
    rw c.ok.ensures.value (kept_put (holder_modes (modes_among entries)) (λ run. true) c.reserve.new.self c.new.result c.new.ensures.ok
    (subst (λ (l : List Run). AreRunsWhere (holder_modes (modes_among entries)) (λ run. true) l) (sym c.reserve.ensures.runs)
    (all_indexed entries c.loop-owner.yielded c.loop-owner.index.runs whole c.loop-owner.invariant.2)))
