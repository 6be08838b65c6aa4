use Rattle.session_core.proofs.Common.{◌∙◌, HasRepeated}
use Rattle.session_core.proofs.check.JournalChecker.taken.Goals as goal

pub returns : goal.returns
unfolding HasRepeated
returns c = λ rules processes accepted has. c.taken.ensures ∙ has.repeated.counts c.args.p
