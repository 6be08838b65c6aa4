use Rattle.history_text.proofs.Common.{arith, common_steps}
use Rattle.history_text.proofs.AnswerLemmas.{held_given}
use Rattle.history_text.proofs.answers.read_held_words.Goals as goal

pub returns : goal.returns
returns c = grind (arith, common_steps, held_given)
