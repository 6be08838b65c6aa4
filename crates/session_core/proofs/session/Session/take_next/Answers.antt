use Rattle.session_core.proofs.Common.{arith, common_steps, manager_of}
use Rattle.session_core.proofs.SessionLemmas.{session_holds, next_is_first, none_below, none_left, TakesOne-request}
use Rattle.session_core.proofs.session.Session.take_next.Goals as goal

pub take-requires-clause-next : goal.take-requires-clause-next
take-requires-clause-next c = grind (arith, common_steps, next_is_first)

pub returns-in-Some-clause-taken : goal.returns-in-Some-clause-taken
unfolding manager_of
returns-in-Some-clause-taken c = grind (arith, common_steps, next_is_first, none_below, TakesOne-request)

pub returns-in-None-clause-taken : goal.returns-in-None-clause-taken
returns-in-None-clause-taken c = grind (arith, common_steps, none_left)

pub returns-in-None-clause-drained : goal.returns-in-None-clause-drained
returns-in-None-clause-drained c = grind (arith, common_steps, none_left)

pub returns-in-Some-clause-holds : goal.returns-in-Some-clause-holds
returns-in-Some-clause-holds c = session_holds _

pub returns-in-None-clause-holds : goal.returns-in-None-clause-holds
returns-in-None-clause-holds c = session_holds _
