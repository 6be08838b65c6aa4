use Rattle.session_core.proofs.SessionLemmas.{session_holds}
use Rattle.session_core.proofs.session.Session.journal.Goals as goal

pub returns-clause-holds : goal.returns-clause-holds
returns-clause-holds c = session_holds _
