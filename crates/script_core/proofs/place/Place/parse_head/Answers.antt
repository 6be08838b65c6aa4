use Rattle.script_core.proofs.Common.{words_of}
use Rattle.script_core.proofs.JournalLemmas.{head_of_first, head_skipped}
use Rattle.script_core.proofs.place.Place.parse_head.Goals as goal

pub returns-in-Some : goal.returns-in-Some
returns-in-Some c =
    head_of_first c.args.self.now (words_of c.args.text.now) c.parse_first.result (rw (c.in-Some.ensures.0, c.in-Some.ensures.1) c.parse_first.ensures)

pub returns-in-None : goal.returns-in-None
returns-in-None c = head_skipped c.args.self.now (words_of c.args.text.now) c.in-None.ensures
