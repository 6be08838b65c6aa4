use Rattle.session_core.proofs.Common.{HasRepeated}
use Rattle.session_core.proofs.check.JournalChecker.answered.Goals as goal

pub returns : goal.returns
unfolding HasRepeated
returns c = λ rules processes accepted has. c.answered.ensures rules processes accepted has.repeated
