use Rattle.std.proofs.Common.{◌≡◌, ◌∙◌, ◌++◌, ap, sym, subst, [], arith}
use Rattle.std.proofs.lemmas.List.{append-nil}
use Rattle.std.specs.Option.{option_to_list}
use Rattle.range_core.specs.Replacing.{own_run, IsReplacement}
use Rattle.range_core.proofs.ReplacingLemmas.{replaced}
use Rattle.range_core.proofs.replacement.replacement.Goals as goal

pub returns : goal.returns
returns c =
    let left = option_to_list c.left_end-first.result.1 in
    let right = option_to_list c.right_end-last.result.1 in
    let own = own_run c.args.mode c.left_end-first.result.0 c.right_end-last.result.0 in
    let all : c.loop-run.run-index ≡ 3 = omega arith in
    let items : c.loop-run.put.items ≡ left ++ (own ++ right) =
    rw all at c.loop-run.invariant
    ∙ ap (λ runs. left ++ (runs ++ (right ++ []))) c.own_run.ensures
    ∙ ap (λ runs. left ++ (own ++ runs)) (append-nil right) in
    subst (λ put. IsReplacement c.args.touched.now c.args.span c.args.mode put) (sym items)
    (replaced c.args.touched.now left right c.args.span c.args.mode c.left_end-first.result.0 c.right_end-last.result.0 c.requires.span c.left_end-first.ensures c.right_end-last.ensures)
