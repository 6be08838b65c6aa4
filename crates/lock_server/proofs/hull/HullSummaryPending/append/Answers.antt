use Rattle.lock_server.proofs.Common.{◌∙◌}
use Rattle.lock_server.specs.declared.hull.Hull.{Hull}
use Rattle.lock_server.proofs.AskingLemmas.{are_within, within_both}
use Rattle.lock_server.proofs.hull.HullSummaryPending.append.Goals as goal
use Rattle.lock_server.proofs.hull.HullSummaryPending.append.Goals.{then-self, else-self}

pub returns : goal.returns
returns c items others one other =
    let hull : Hull = record { tickets = c.join-self.result; owners = c.join-self-2.result; bytes = c.join-self-3.result; whole = c.if-self.self } in
    within_both hull items others
    (are_within c.args.self.now hull c.join-self.ensures.these c.join-self-2.ensures.these c.join-self-3.ensures.these
    (λ is. elim c.if-self.branch [ then-self w ↦ w.self-is ∙ is | else-self w ↦ (let differs = w.if-self.false in cc) ]) items one)
    (are_within c.args.more.now hull c.join-self.ensures.more c.join-self-2.ensures.more c.join-self-3.ensures.more
    (λ is. elim c.if-self.branch [ then-self w ↦ w.self-is ∙ w.if-self.true | else-self w ↦ w.self-is ∙ is ]) others other)
