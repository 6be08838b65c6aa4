use Rattle.script_core.proofs.Common.{sym, words_of, reading_of}
use Rattle.script_core.proofs.FirstWordsLemmas.{first_words_give, words_skipped}
use Rattle.script_core.proofs.line.parse_text.Goals as goal

pub returns-in-Some : goal.returns-in-Some
returns-in-Some c = λ arrivals top.
    first_words_give (reading_of c.args.header arrivals) (words_of c.args.text.now) c.parse_first.result
    (rw (c.in-Some.ensures.0, c.in-Some.ensures.1, sym top) c.parse_first.ensures)

pub returns-in-None : goal.returns-in-None
returns-in-None c = λ arrivals top. words_skipped (reading_of c.args.header arrivals) (words_of c.args.text.now) c.in-None.ensures
