use Rattle.cluster_view.proofs.OneDecisionLaws.{same_decision, same_part}
use Rattle.cluster_view.proofs.laws.same_hellos_same_decision.Goals as goal

pub returns-clause-decision : goal.returns-clause-decision
returns-clause-decision c = λ ring hellos others decision other same p q. same_decision ring hellos others decision other same p q

pub returns-clause-parts : goal.returns-clause-parts
returns-clause-parts c = λ hellos others decision member part other same p q. same_part hellos others decision member part other same p q
