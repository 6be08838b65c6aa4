use Rattle.script_core.proofs.ExplanationLaws.{explanations_are_comments}
use Rattle.script_core.proofs.laws.explanations_are_comments.Goals as goal

pub returns : goal.returns
returns c = explanations_are_comments
