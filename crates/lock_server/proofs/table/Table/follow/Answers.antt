use Rattle.lock_server.proofs.Common.{ℕ, get_or, slice_get-get_or, WaitsForOn, state_in, entry_of, table_state}
use Rattle.lock_server.proofs.FollowLemmas.{files_all, given_more, given_none}
use Rattle.lock_server.proofs.table.Table.follow.Goals as goal

pub loop-file-init : goal.loop-file-init
loop-file-init c =
    given_none c.args.self.now c.args.target
    (λ place file other. WaitsForOn c.args.policy (state_in c.args.self.now.files file) c.args.owner other) _ c.args.reached.now c.requires.told

pub follow_on-requires : goal.follow_on-requires
follow_on-requires c = record { told = c.loop-file.invariant.told; among = c.loop-file.invariant.adds.adds.kept c.args.owner c.requires.among }

pub loop-file-preserved : goal.loop-file-preserved
unfolding table_state entry_of
loop-file-preserved c =
    let table = c.args.self.now in
    let files = c.files-file-items.result.now in
    let file = get_or files c.loop-file.file-index 0 in
    let at = slice_get-get_or files c.loop-file.file-index 0 c.loop-file-test.true in
    let Gives : ℕ → ℕ → ℕ → Type 0 = λ place file other. WaitsForOn c.args.policy (state_in table.files file) c.args.owner other in
    given_more table c.args.target Gives files c.loop-file.file-index file c.args.reached.now c.loop-file.reached c.follow_on.new.reached at
    c.loop-file.invariant c.in_ok-follow_on.ensures

pub returns : goal.returns
returns c =
    files_all c.args.policy c.args.self.now c.args.target c.args.owner c.args.reached.now c.loop-file.reached c.loop-file.file-index
    (rw c.files-file-items.ensures at c.loop-file-test.false) (rw c.files-file-items.ensures at c.loop-file.invariant)
