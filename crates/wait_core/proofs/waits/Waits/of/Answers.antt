use Rattle.wait_core.proofs.Common.{◌∙◌, rules, ◌==◌, Wait, waits_of}
use borrow.Author.Tests.{tests}
use Rattle.std.proofs.lemmas.Iterator.{YieldsList-from_slice}
use Rattle.std.proofs.lemmas.Iterator.Search.{find_from_yields_List}
use Rattle.wait_core.proofs.waits.Waits.of.Goals as goal

pub returns-clause-found : goal.returns-clause-found
unfolding waits_of
returns-clause-found c =
    c.copied.ensures ∙ find_from_yields_List (λ (wait : Wait). wait.p == c.args.p) _ _ c.find.result c.find.ensures.ran
    (YieldsList-from_slice c.args.self.now.waits.items cc) (λ x b q k. search (rules, tests))
