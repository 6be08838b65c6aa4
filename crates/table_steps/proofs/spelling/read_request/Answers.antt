use Rattle.table_steps.proofs.Common.{rules}
use Rattle.table_steps.proofs.SpellingLaws.{lock_read}
use Rattle.table_steps.proofs.spelling.read_request.Goals as goal

pub returns-in_default : goal.returns-in_default
returns-in_default c = λ r fits e. lock_read c.args.words r c.half-in_default.result c.command_in_word.result c.lock_in_words.result fits e
    (search rules, search rules, search rules, search rules, search rules, search rules)
    (search rules, search rules, search rules, search rules, search rules, search rules, search rules, search rules)
    c.half-in_default.ensures c.command_in_word.ensures c.lock_in_words.ensures
