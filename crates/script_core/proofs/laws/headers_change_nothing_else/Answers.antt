use Rattle.script_core.proofs.HeaderLemmas.{headers_only}
use Rattle.script_core.proofs.laws.headers_change_nothing_else.Goals as goal

pub returns : goal.returns
returns c = headers_only
