use Rattle.table_steps.proofs.Common.{arith, common_steps, words_table, words_setup, desk_at, desk_knows}
use Rattle.table_steps.proofs.Joining.{opens}
use Rattle.table_steps.proofs.words.Words.new.Goals as goal

pub of_words-requires : goal.of_words-requires
unfolding words_table words_setup desk_at desk_knows
of_words-requires c = grind (arith, common_steps, opens)
