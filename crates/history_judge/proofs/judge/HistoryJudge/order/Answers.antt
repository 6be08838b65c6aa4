use Rattle.history_judge.proofs.Common.{rules, ◌≡◌, subst, true}
use Rattle.history_judge.specs.JudgeView.{keeps_order}
use Rattle.history_judge.specs.FileOrders.{AreMerged}
use Rattle.history_judge.proofs.OrderLemmas.{order_merged}
use Rattle.history_judge.proofs.judge.HistoryJudge.order.Goals as goal

pub returns-clause-is_order : goal.returns-clause-is_order
returns-clause-is_order c runs lines knows =
    let keeps : keeps_order c.args.self.now ≡ true = search rules in
    order_merged runs c.args.self.now lines c.in_ok-order.order.items keeps
    (subst (λ fs. AreMerged c.args.self.now.files.files fs c.in_ok-order.order.items) c.deref.ensures.value c.in_ok-order.ensures) knows
