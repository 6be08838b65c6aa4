use Rattle.history_judge.proofs.Common.{◌∙◌, ◌+◌, ap, beyond, left_in}
use Rattle.history_judge.proofs.PassLemmas.{all_left}
use Rattle.history_judge.proofs.order.FileOrder.pass_line.Goals as goal

pub returns-clause-left : goal.returns-clause-left
returns-clause-left c =
    all_left c.loop-happening.self c.next_due.new.self (left_in c.args.self.now).told (c.args.self.now.lines + 1) (c.next_due.ensures.none c.in_default.is)
    (c.loop-happening.invariant.lines ∙ c.in_ok-self.ensures.ok) c.in_default.ensures.due (c.loop-happening.invariant.left ∙ ap (λ n. beyond n (left_in c.args.self.now).told) c.in_ok-self.ensures.ok)
