use Rattle.std.proofs.Common.{◌≡◌, ◌++◌, ◌∷◌, ◌∙◌, ℕ, List, [], Some, ap, append_assoc, map, subst, sym}
use Rattle.std.proofs.lemmas.Cmp.{nat_cmp_total}
use Rattle.std.proofs.lemmas.List.{map-append}
use Rattle.std.proofs.lemmas.Map.Iter.{btree_map_turn, iter_end}
use Rattle.std.specs.BTreeMap.{get}
use Rattle.std.specs.Borrow.{Bor}
use Rattle.std.specs.Map.Iter.{deref_pair}
use Rattle.std.specs.Ordering.{nat_cmp}
use Rattle.history_core.specs.declared.held_locks.HeldLocks.{HeldLocks}
use Rattle.history_core.specs.HeldView.{locks_in}
use Rattle.history_judge.specs.HeldView.{held_on, locks_on}
use Rattle.history_check.specs.OrderTold.{IsFileText}
use Rattle.history_check.proofs.OrderLemmas.{TellsFiles, all_files, file_more, numbers_of}
use Rattle.history_check.proofs.order_text.push_state.Goals as goal

pub loop-file-preserved : goal.loop-file-preserved
loop-file-preserved c =
    let held = c.files-file-items.result.now in
    let gives = c.into_iter-file-iterator.ensures.into_iter_gives in
    let file = c.in-Some.file.now in
    let so_far = c.loop-file.invariant in
    let told = c.in_ok-push_file.ensures in
    let number : Bor ℕ × Bor HeldLocks → ℕ = λ p. p.0.now in
    let found : get nat_cmp held file ≡ Some c.in-Some.locks.now =
    (btree_map_turn deref_pair c.loop-file.yielded _ _ _ _ (c.in-Some.file, c.in-Some.locks) c.loop-file.yielded_by c.in-Some.is c.next.ensures.steps
    nat_cmp_total held gives.0 gives.5).1 in
    let same : locks_in c.in-Some.locks.now ≡ locks_on c.args.held.now file = sym (ap held_on found) ∙ c.files-file-items.ensures file in (
      so_far.0 ++ told.0,
      subst (λ fs. TellsFiles (locks_on c.args.held.now) fs (so_far.0 ++ told.0))
          (sym (map-append number c.loop-file.yielded ((c.in-Some.file, c.in-Some.locks) ∷ [])))
          (file_more (locks_on c.args.held.now) (map number c.loop-file.yielded) so_far.0 file told.0 so_far.1
          (subst (λ l. IsFileText file l told.0) same told.1)),
      told.2 ∙ ap (λ (t : List ℕ). t ++ told.0) so_far.2 ∙ append_assoc c.args.text.now.items so_far.0 told.0,
    )

pub returns : goal.returns
returns c =
    let held = c.files-file-items.result.now in
    let gives = c.into_iter-file-iterator.ensures.into_iter_gives in
    let so_far = c.loop-file.invariant in
    let whole = (iter_end deref_pair held.entries c.loop-file.yielded _ _ _ _ gives.0 c.loop-file.yielded_by c.in-None.is c.next.ensures.steps).0 in (
      so_far.0,
      all_files (locks_on c.args.held.now) held so_far.0 c.files-file-items.ensures
          (subst (λ fs. TellsFiles (locks_on c.args.held.now) fs so_far.0)
          (sym (numbers_of c.loop-file.yielded) ∙ ap (map (λ (e : ℕ × HeldLocks). e.0)) whole) so_far.1),
      so_far.2,
    )
