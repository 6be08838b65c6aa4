use Rattle.session_core.proofs.Common.{state_at}
use Rattle.wait_core.specs.Processes.{lacking}
use Rattle.session_core.proofs.MailLemmas.{HaveNoMail}
use Rattle.session_core.proofs.sequencer.Sequencer.next_mail.Given as goal

-- none of those that were passed by has mail that may be taken
abbrev pub invariant-loop-p : goal.invariant-loop-p
invariant-loop-p l = HaveNoMail l.passed (state_at l.self.manager) l.self.mailboxes.items

-- one process more is passed by each time
abbrev pub decreases-loop-p : goal.decreases-loop-p
decreases-loop-p l = lacking l.passed
