use Rattle.lock_server.proofs.Common.{◌≡◌, ◌≤◌, ◌∙◌, [], ◌∷◌, Some, length, sym, subst, arith, slice_get, common_steps, get_or_from_slice_get, slice_get_cases, slice_get_within, wait_words, Pending, file_state, Puts}
use Rattle.lock_server.proofs.WordLemmas.{items_all, items_more}
use Rattle.lock_server.proofs.file.LockFile.put_waits.Goals as goal

pub overflow_add-place : goal.overflow_add-place
unfolding file_state
overflow_add-place c =
    let waits = c.args.self.now.waits.items in
    let there : slice_get waits c.loop-wait.place ≡ Some c.in-Some.wait = sym c.get.ensures ∙ c.in-Some.is in
    let within = slice_get_within waits c.loop-wait.place c.in-Some.wait there in
    grind (arith, common_steps)

pub loop-wait-preserved : goal.loop-wait-preserved
unfolding file_state
loop-wait-preserved c =
    let waits = c.args.self.now.waits.items in
    let wait = c.in-Some.wait in
    let there : slice_get waits c.loop-wait.place ≡ Some wait = sym c.get.ensures ∙ c.in-Some.is in
    let is = get_or_from_slice_get waits c.loop-wait.place wait wait there in
    items_more wait_words (length waits ∷ []) waits c.loop-wait.place wait _ _ _ _ _ _ (slice_get_within waits c.loop-wait.place wait there) c.loop-wait.invariant
    (subst (λ (w : Pending). Puts (wait_words w) c.loop-wait.out c.loop-wait.behind c.put_wait-behind.new.out c.put_wait-behind.result) (sym is) c.put_wait-behind.ensures)

pub loop-wait-smaller : goal.loop-wait-smaller
unfolding file_state
loop-wait-smaller c =
    let waits = c.args.self.now.waits.items in
    let there : slice_get waits c.loop-wait.place ≡ Some c.in-Some.wait = sym c.get.ensures ∙ c.in-Some.is in
    let within = slice_get_within waits c.loop-wait.place c.in-Some.wait there in
    omega (arith, within)

pub returns : goal.returns
unfolding file_state
returns c =
    let waits = c.args.self.now.waits.items in
    let past : length waits ≤ c.loop-wait.place = grind (arith, common_steps, slice_get_cases) in
    items_all wait_words (length waits ∷ []) waits c.loop-wait.place _ _ _ _ past c.loop-wait.invariant
