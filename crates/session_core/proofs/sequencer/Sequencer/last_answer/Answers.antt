use Rattle.session_core.proofs.Common.{HasTold, ◌∙◌}
use Rattle.session_core.proofs.LastLemmas.{last_is}
use Rattle.session_core.proofs.sequencer.Sequencer.last_answer.Goals as goal

pub returns : goal.returns
unfolding HasTold
returns c journal told =
    let self = c.args.self.now in
    c.of.ensures ∙ last_is self.manager _ _ self.mailboxes.items self.answers journal c.args.p told.mail told.answered told.holds
