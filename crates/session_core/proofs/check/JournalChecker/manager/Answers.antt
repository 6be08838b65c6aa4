use Rattle.session_core.proofs.Common.{HasRepeated}
use Rattle.session_core.proofs.runs.ReplayLemmas.{after_made}
use Rattle.session_core.proofs.check.JournalChecker.manager.Goals as goal

pub returns : goal.returns
unfolding HasRepeated
returns c = λ rules processes accepted has.
    after_made c.step_has_one_outcome.ensures rules processes c.args.self.now.replay accepted has.repeated
