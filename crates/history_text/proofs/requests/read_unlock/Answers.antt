use Rattle.history_text.proofs.ArgumentLemmas.{nothing, four_texts}
use Rattle.history_text.proofs.requests.read_unlock.Goals as goal

pub returns-in-len4 : goal.returns-in-len4
unfolding nothing
returns-in-len4 c = rw (four_texts c.args.arguments.now nothing c.in-len4.len_at_least c.in-len4.len_below) c.read_unlock_words.ensures
