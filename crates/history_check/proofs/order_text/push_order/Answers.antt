use Rattle.std.proofs.Common.{rules, ◌≡◌, [], append-nil, drop, sym}
use Rattle.std.proofs.lemmas.List.{drop_all}
use Rattle.history_judge.specs.HeldView.{locks_on}
use Rattle.history_check.proofs.OrderLemmas.{more_told, next_of, none_told, order_ends}
use Rattle.history_check.proofs.order_text.push_order.Goals as goal

pub loop-index-init : goal.loop-index-init
loop-index-init c = ([], none_told c.args.states c.args.order.now (locks_on c.new-held.result) c.new-held.ensures, sym (append-nil c.args.text.now.items))

pub loop-index-preserved : goal.loop-index-preserved
loop-index-preserved c =
    let so_far = c.loop-index.invariant in
    let state = c.in_ok-push_state_behind.ensures in
    more_told c.args.states c.args.order.now c.loop-index.index (locks_on c.loop-index.held) (locks_on c.apply.new.self) so_far.0 state.0 _ _ _ _ _
    (next_of c.args.order.now c.loop-index.index _ c.loop-index-test.true) so_far.1 (c.in_ok-apply.ensures.leaves (search rules)) state.1 so_far.2
    c.in_ok-push_happening.ensures state.2

pub returns : goal.returns
returns c = λ last leave.
    let so_far = c.loop-index.invariant in
    let none : drop c.loop-index.index c.args.order.now ≡ [] =
    drop_all c.loop-index.index c.args.order.now c.loop-index-test.false in
    (so_far.0, order_ends c.args.states c.args.order.now c.loop-index.index (locks_on c.loop-index.held) so_far.0 none so_far.1, so_far.2)
