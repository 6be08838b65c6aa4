use Rattle.history_text.proofs.ArgumentLemmas.{nothing, four_texts}
use Rattle.history_text.proofs.answers.read_held.Goals as goal

pub returns-in-len4 : goal.returns-in-len4
unfolding nothing
returns-in-len4 c = rw (four_texts c.args.told.now nothing c.in-len4.len_at_least c.in-len4.len_below) c.read_held_words.ensures
