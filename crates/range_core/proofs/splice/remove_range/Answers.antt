use Rattle.std.proofs.Common.{◌≡◌, ◌++◌, ◌∙◌, ap, suc, take, drop, arith}
use Rattle.range_core.proofs.splice.remove_range.Goals as goal

pub returns-in-1-clause-items : goal.returns-in-1-clause-items
returns-in-1-clause-items c =
    let old = c.args.runs.now.items in
    let one = c.in-1.is in
    let next : suc c.args.start ≡ c.args.end = omega (arith, one, c.requires.ordered) in
    c.remove.ensures.items ∙ ap (λ n. take c.args.start old ++ drop n old) next
