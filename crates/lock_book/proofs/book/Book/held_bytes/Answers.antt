use Rattle.lock_book.proofs.Common.{◌∙◌, deref_pair, iter_end}
use Rattle.lock_book.proofs.BlockLemmas.{modes_in_loop, before_in_loop}
use Rattle.lock_book.proofs.HeldLemmas.{locks_of_more, all_byte_locks}
use Rattle.lock_book.proofs.book.Book.held_bytes.Goals as goal

pub loop-owner-preserved : goal.loop-owner-preserved
loop-owner-preserved c =
    let gives = c.into_iter-owner-iterator.ensures.into_iter_gives ∙ c.iter-owner-items.ensures.lists in
    let modes = modes_in_loop c.args.self.now c.loop-owner.yielded _ _ _ _ (c.in-Some.owner, c.in-Some.list)
    gives c.loop-owner.yielded_by c.in-Some.is c.next.ensures.steps c.iter-owner-items.ensures.found in
    let before = before_in_loop c.args.self.now c.loop-owner.yielded _ _ _ _ (c.in-Some.owner, c.in-Some.list)
    gives c.loop-owner.yielded_by c.in-Some.is c.next.ensures.steps c.iter-owner-items.ensures.rising in
    (tt, tt, locks_of_more _ _ c.loop-owner.yielded (c.in-Some.owner, c.in-Some.list) _ _ c.loop-owner.invariant.2 modes before c.in_ok-push_runs.ensures)

pub returns-clause-locks : goal.returns-clause-locks
returns-clause-locks c =
    let gives = c.into_iter-owner-iterator.ensures.into_iter_gives ∙ c.iter-owner-items.ensures.lists in
    let whole = (iter_end deref_pair c.args.self.now.owners c.loop-owner.yielded _ _ _ _ gives c.loop-owner.yielded_by c.in-None.is c.next.ensures.steps).0 in
    all_byte_locks c.args.self.now _ c.loop-owner.yielded _ whole c.loop-owner.invariant.2
