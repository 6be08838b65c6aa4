use Rattle.lock_server.proofs.Common.{ap, is_some}
use Rattle.lock_server.proofs.PairLemmas.{none_weaker}
use Rattle.lock_server.proofs.holdings.Holdings.next_pair.Goals as goal

pub returns-clause-none : goal.returns-clause-none
returns-clause-none c = none_weaker c.first_from.result (λ none other from. ap is_some (none other from)) c.first_from.ensures.none
