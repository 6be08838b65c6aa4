use Rattle.session_core.proofs.Common.{◌∙◌, sym}
use Rattle.session_core.proofs.SessionLemmas.{next_is_first}
use Rattle.session_core.proofs.session.Session.take.Goals as goal

pub take-requires-clause-next : goal.take-requires-clause-next
take-requires-clause-next c = sym (next_is_first c.args.self.now c.args.p) ∙ c.requires.next
