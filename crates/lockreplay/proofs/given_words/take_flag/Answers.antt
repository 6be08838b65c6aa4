use Rattle.std.proofs.Common.{rules, string_bytes}
use Rattle.lockreplay.proofs.GivenWordLemmas.{left_by}
use Rattle.lockreplay.proofs.given_words.take_flag.Goals as goal

pub returns-clause-left : goal.returns-clause-left
returns-clause-left c = left_by string_bytes c.args.words.now.items c.remove.new.self.items c.args.flag.now c.in-Some.place (search rules) c.remove.ensures.by_index.2
