use Rattle.std.proofs.Common.{rules, ◌≡◌, None, ap, false, subst, sym, true}
use Rattle.history_check.specs.Checked.{verdict_at}
use Rattle.history_check.specs.Verdicts.{LegalComes}
use Rattle.history_check.proofs.CheckLemmas.{legal_ordered, legal_unordered}
use Rattle.history_check.proofs.check.HistoryCheck.keep_order.Goals as goal

pub returns-then-not-self-clause-legal : goal.returns-then-not-self-clause-legal
returns-then-not-self-clause-legal c = λ judging before read.
    let old = c.args.self.now in
    let off : old.judging.order ≡ false = search rules in
    subst (LegalComes judging before) (sym (ap (verdict_at (record old { order = None })) c.requires)) (legal_unordered judging old before off read)

pub returns-clause-legal : goal.returns-clause-legal
returns-clause-legal c = λ judging before read.
    let old = c.args.self.now in
    let new = record old { order = c.in_ok-self.field-0 } in
    let on : old.judging.order ≡ true = search rules in
    subst (LegalComes judging before) (sym (ap (verdict_at new) c.requires))
    (legal_ordered judging old before (verdict_at new None) on read (c.in_ok-self.ensures judging before read))
