use Rattle.std.proofs.lemmas.Grind.{common_steps}
use Rattle.std.proofs.Common.{◌≡◌, ◌≢◌, ◌-◌, ◌<◌, ◌≤◌, sym, subst, ◌∙◌, Some, [], ◌∷◌, arith}
use Rattle.std.proofs.lemmas.Bool.{false≢true}
use Rattle.range_core.specs.declared.Mode.{Mode}
use Rattle.range_core.specs.declared.Span.{Span}
use Rattle.range_core.specs.Replacing.{IsLeftEnd}
use Rattle.range_core.proofs.EndLemmas.{left_clear, left_joined, left_piece}
use Rattle.range_core.proofs.replacement.left_end.Goals as goal

pub returns-then-joins : goal.returns-then-joins
returns-then-joins c =
    let touched = c.args.touched.now in
    let run = c.in-Some.field-0.now in
    let found = c.in-Some.ensures.item.3 in
    let is = found.1 run in
    let out = subst (λ (r : Mode × Span). r.1.first < c.args.span.first) is c.if-run-span.true in
    let same = subst (λ (r : Mode × Span). c.args.mode ≡ Some r.0) is (c.joins.ensures.0 c.if-joins.true) in
    subst (λ (r : Mode × Span). IsLeftEnd touched c.args.span c.args.mode r.1.first []) (sym is)
    (left_joined touched c.args.span c.args.mode run c.requires.in_order c.requires.touched found.0 out same)

pub returns-else-joins : goal.returns-else-joins
returns-else-joins c =
    let touched = c.args.touched.now in
    let run = c.in-Some.field-0.now in
    let found = c.in-Some.ensures.item.3 in
    let is = found.1 run in
    let out = subst (λ (r : Mode × Span). r.1.first < c.args.span.first) is c.if-run-span.true in
    let other = subst (λ (r : Mode × Span). c.args.mode ≢ Some r.0) is (λ same. false≢true (sym c.if-joins.false ∙ c.joins.ensures.1 same)) in
    subst (λ (r : Mode × Span). IsLeftEnd touched c.args.span c.args.mode c.args.span.first ((r.0, record { first = r.1.first; last = c.args.span.first - 1 }) ∷ [])) (sym is)
    (left_piece touched c.args.span c.args.mode run c.requires.in_order c.requires.touched found.0 out other)

pub returns-in_default : goal.returns-in_default
returns-in_default c =
    let touched = c.args.touched.now in
    let run = c.in-Some.field-0.now in
    let is = c.in-Some.ensures.item.3.1 run in
    left_clear touched c.args.span c.args.mode run c.requires.in_order (λ some. subst (λ (r : Mode × Span). c.args.span.first ≤ r.1.first) is c.if-run-span.false)

pub returns-in_default-2 : goal.returns-in_default-2
returns-in_default-2 c = grind (arith, common_steps, left_clear)
