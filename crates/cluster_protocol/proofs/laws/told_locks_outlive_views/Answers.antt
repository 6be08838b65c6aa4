use Rattle.cluster_protocol.proofs.EachStepLaws.{told_locks, told_locks_stay}
use Rattle.cluster_protocol.proofs.laws.told_locks_outlive_views.Goals as goal

pub returns-clause-views : goal.returns-clause-views
returns-clause-views c = told_locks c.same_hellos_same_decision.ensures.decision

pub returns-clause-states : goal.returns-clause-states
returns-clause-states c = told_locks_stay c.same_hellos_same_decision.ensures.decision
