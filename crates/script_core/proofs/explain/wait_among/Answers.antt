use Rattle.script_core.proofs.Common.{◌∙◌, rules, Wait}
use Rattle.std.specs.Prelude.{◌==◌}
use borrow.Author.Tests.{tests}
use Rattle.std.proofs.lemmas.Iterator.{YieldsList-from_slice}
use Rattle.std.proofs.lemmas.Iterator.Search.{find_from_yields_List}
use Rattle.script_core.proofs.explain.wait_among.Goals as goal

pub returns : goal.returns
returns c =
    c.copied.ensures ∙ find_from_yields_List (λ (wait : Wait). wait.p == c.args.p) _ _ c.find.result c.find.ensures.ran
    (YieldsList-from_slice c.args.waits.now cc) (λ x b q k. search (rules, tests))
