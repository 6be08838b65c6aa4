use Rattle.lock_server.proofs.Common.{ℕ, get_or, sym, subst, slice_get-get_or, AddsOwners, WaitsForOn, FileState, state_in, entry_of, table_state}
use Rattle.lock_server.proofs.GatheredOwnerLemmas.{gathered_more, gathered_skip}
use Rattle.lock_server.proofs.ReachedLemmas.{all_files, no_step_there}
use Rattle.lock_server.proofs.TableLemmas.{found_state, not_found_state}
use Rattle.lock_server.proofs.table.Table.add_steps.Goals as goal
use Rattle.lock_server.proofs.table.Table.add_steps.Goals.{in-Some+in_ok-add_steps, in_default}

pub loop-file-preserved : goal.loop-file-preserved
unfolding table_state entry_of
loop-file-preserved c =
    let old = c.args.owners.now.items in
    let mid = c.loop-file.owners.items in
    let table = c.args.self.now in
    let files = c.files-file-items.result.now in
    let file = get_or files c.loop-file.file-index 0 in
    let at = slice_get-get_or files c.loop-file.file-index 0 c.loop-file-test.true in
    let Gives : ℕ → ℕ → ℕ → Type 0 = λ place file other. WaitsForOn c.args.policy (state_in table.files file) c.args.owner other in
    elim c.match-get.branch [
      | in-Some+in_ok-add_steps w ↦
          rw w.owners-is
          (gathered_more Gives files old mid w.add_steps.new.owners.items c.loop-file.file-index file at c.loop-file.invariant
          (subst (λ (F : FileState). AddsOwners mid w.add_steps.new.owners.items (WaitsForOn c.args.policy F c.args.owner))
          (sym (found_state table file c.get.result w.in-Some.locks c.get.ensures.value w.in-Some.is)) w.in_ok-add_steps.ensures))
      | in_default w ↦
          rw w.owners-is
          (gathered_skip Gives files old mid c.loop-file.file-index file at c.loop-file.invariant
          (λ other step.
          no_step_there c.args.policy c.args.owner other
          (subst (λ (F : FileState). WaitsForOn c.args.policy F c.args.owner other) (not_found_state table file c.get.result c.get.ensures.value w.in_default.is) step)))
    ]

pub returns : goal.returns
returns c =
    all_files c.args.policy c.args.self.now c.args.owner c.args.owners.now.items c.loop-file.owners.items c.loop-file.file-index (rw c.files-file-items.ensures at c.loop-file-test.false)
    (rw c.files-file-items.ensures at c.loop-file.invariant)
