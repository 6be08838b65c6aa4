use Rattle.session_core.proofs.Common.{◌≡◌, ◌∙◌, ap, rules, length, answers_to}
use Rattle.session_core.proofs.LastLemmas.{number_in}
use Rattle.session_core.proofs.runs.ReplayLemmas.{answered_made}
use Rattle.session_core.proofs.check.Replay.answered.Goals as goal

pub returns : goal.returns
returns c = λ rules_are processes events made.
    let many : number_in c.of.result ≡ length (answers_to c.args.p events) =
    ap number_in c.of.ensures ∙ answered_made rules_are processes c.args.self.now events c.args.p made in
    search (rules, many)
