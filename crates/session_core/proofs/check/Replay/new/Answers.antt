use Rattle.session_core.proofs.Common.{◌≡◌, rules}
use Rattle.std.proofs.Common.{replicate}
use Rattle.session_core.proofs.runs.ReplayLemmas.{HasMade-opening}
use Rattle.session_core.proofs.check.Replay.new.Goals as goal

pub returns : goal.returns
returns c =
    let manager = c.in_ok-manager.ensures in
    let zeros : c.in_ok-taken.taken.items ≡ replicate c.from.result 0 = search rules in
    HasMade-opening c.args.rules c.args.processes _ c.from.result c.requires.0 manager.rules manager.processes manager.opening zeros
    c.in_ok-answers.ensures.processes c.in_ok-answers.ensures.none
