use Rattle.lock_server.proofs.Common.{◌≡◌, ◌≤◌, ◌∙◌, true, Some, length, sym, subst, arith, slice_get, common_steps, get_or_from_slice_get, slice_get_cases, slice_get_within, Pending, Keeps, table_state}
use Rattle.lock_server.proofs.CollectedLemmas.{waiting_all, waiting_more, waiting_none}
use Rattle.lock_server.proofs.holdings.Holdings.enter_waiting.Goals as goal

pub loop-wait-init : goal.loop-wait-init
loop-wait-init c = waiting_none c.args.self.now c.args.file ((table_state c.args.table.now).files c.args.file).waits

pub loop-wait-preserved : goal.loop-wait-preserved
loop-wait-preserved c =
    let waits = ((table_state c.args.table.now).files c.args.file).waits in
    let place = c.loop-wait.place in
    let wait = c.in-Some.wait in
    let there : slice_get waits place ≡ Some wait = sym c.wait_on.ensures.is ∙ c.in-Some.is in
    let is = get_or_from_slice_get waits place wait wait there in
    waiting_more c.args.self.now c.args.file waits place c.loop-wait.self wait c.enter.new.self (slice_get_within waits place wait there) c.loop-wait.invariant
    (subst (λ (w : Pending). Keeps c.loop-wait.self c.enter.new.self w.owner c.args.file true) (sym is) c.in_ok-enter.ensures.ok)

pub loop-wait-smaller : goal.loop-wait-smaller
loop-wait-smaller c =
    let waits = ((table_state c.args.table.now).files c.args.file).waits in
    let there : slice_get waits c.loop-wait.place ≡ Some c.in-Some.wait = sym c.wait_on.ensures.is ∙ c.in-Some.is in
    let within = slice_get_within waits c.loop-wait.place c.in-Some.wait there in
    omega (arith, within)

pub returns : goal.returns
returns c =
    let waits = ((table_state c.args.table.now).files c.args.file).waits in
    let past : length waits ≤ c.loop-wait.place = grind (arith, common_steps, slice_get_cases) in
    waiting_all c.args.self.now c.args.file waits c.loop-wait.place c.loop-wait.self past c.loop-wait.invariant
