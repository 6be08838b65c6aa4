use Rattle.std.proofs.Common.{◌∙◌, Ok, ap, map, sym}
use Rattle.std.proofs.lemmas.Bool.{false≢true}
use Rattle.history_check.specs.Verdicts.{by_number, history_of}
use Rattle.history_check.proofs.CheckLemmas.{order_told}
use Rattle.history_check.proofs.check.HistoryCheck.text_order.Goals as goal

pub returns-in_default : goal.returns-in_default
returns-in_default c = λ judging before read on.
    absurd (false≢true (sym (c.order.ensures.none (c.in_ok-order.was ∙ ap (λ o. Ok o) c.in_default.is)) ∙ read.keeps on))

pub returns : goal.returns
returns c = λ judging before read on.
    let self = c.args.self.now in
    let left = rw c.in-Some.is at c.in_ok-order.ensures.is_order in
    let is = c.in_ok-told.ensures ∙ ap (λ n. map (by_number n) c.deref.result.now) c.deref-2.ensures.value
    ∙ ap (map (by_number self.numbers.items)) c.deref.ensures.value in
    order_told judging self before c.in-Some.order.items c.in_ok-told.told.items (left judging.runs (history_of before) read.knows) is on read
