use Rattle.std.proofs.lemmas.Grind.{common_steps}
use Rattle.std.proofs.Common.{◌+◌, ◌<◌, ◌≤◌, length, max, sym, ap, ◌∙◌, subst, arith}
use Rattle.std.proofs.lemmas.Bool.{false≢true}
use Rattle.std.proofs.lemmas.List.{length-drop, get_or_default}
use Rattle.std.proofs.lemmas.List.Elements.{AllWithin-more}
use Rattle.range_core.specs.declared.Mode.{Mode}
use Rattle.range_core.specs.declared.Mode.TheVariants.{Read}
use Rattle.range_core.specs.declared.Span.{Span}
use Rattle.range_core.specs.Ranges.{Conflict, IsFirstHit}
use Rattle.range_core.specs.Changes.{modes_of}
use Rattle.range_core.proofs.ListLemmas.{rest_at}
use Rattle.range_core.proofs.RunLemmas.{begins_from, unhit, IsFirstHit_at}
use Rattle.range_core.proofs.list.RangeList.first_hit.Goals as goal

-- what a read past the end would give
blank : Mode × Span
blank = (Read, record { first = 0; last = 0 })

pub loop-run-preserved : goal.loop-run-preserved
unfolding blank
loop-run-preserved c k d low high = grind (arith, common_steps, rest_at, blank, length-drop, get_or_default, false≢true, AllWithin-more)

pub returns-then-span-run-clause-none : goal.returns-then-span-run-clause-none
unfolding modes_of blank
returns-then-span-run-clause-none c byte covers =
    let list = c.args.self.now in
    let runs = list.runs.items in
    let k = c.ending_from-place.result + c.loop-run.run-index in
    let is = rest_at runs c.from-run-items.result.now c.ending_from-place.result c.loop-run.run-index blank c.from-run-items.ensures in
    let within : k < length runs = omega (arith, c.loop-run-test.true, ap length c.from-run-items.ensures, length-drop c.ending_from-place.result runs) in
    let behind = subst (λ (run : Mode × Span). c.args.span.last < run.1.first) is c.if-span-run.true in
    unhit runs c.ending_from-place.result k c.args.span.first byte c.args.against c.ending_from-place.ensures.parts.0 c.loop-run.invariant
    (begins_from runs k blank byte list.ranges list.apart within (omega (arith, covers.1, behind))) covers.0

pub returns-then-conflicts_with-clause-hit : goal.returns-then-conflicts_with-clause-hit
unfolding modes_of blank
returns-then-conflicts_with-clause-hit c =
    let list = c.args.self.now in
    let runs = list.runs.items in
    let k = c.ending_from-place.result + c.loop-run.run-index in
    let is = rest_at runs c.from-run-items.result.now c.ending_from-place.result c.loop-run.run-index blank c.from-run-items.ensures in
    let within : k < length runs = omega (arith, c.loop-run-test.true, ap length c.from-run-items.ensures, length-drop c.ending_from-place.result runs) in
    let begins = subst (λ (run : Mode × Span). run.1.first ≤ c.args.span.last) is c.if-span-run.false in
    let conflict = subst (λ (run : Mode × Span). Conflict run.0 c.args.against) is (c.conflicts_with.ensures.0 c.if-conflicts_with.true) in
    let reaches = c.ending_from-place.ensures.parts.1 k blank (omega arith) within in
    let first = IsFirstHit_at runs c.ending_from-place.result k blank c.args.span c.args.against list.ranges list.apart c.ending_from-place.ensures.parts.0 c.loop-run.invariant within reaches begins c.requires.0 conflict in
    subst (λ byte. IsFirstHit (modes_of list) c.args.span c.args.against byte) (sym (c.max.ensures ∙ ap (λ (run : Mode × Span). max run.1.first c.args.span.first) is)) first

pub returns-clause-none : goal.returns-clause-none
unfolding modes_of
returns-clause-none c byte covers =
    let list = c.args.self.now in
    let runs = list.runs.items in
    let k = c.ending_from-place.result + c.loop-run.run-index in
    let past : length runs ≤ k = omega (arith, c.loop-run-test.false, ap length c.from-run-items.ensures, length-drop c.ending_from-place.result runs) in
    unhit runs c.ending_from-place.result k c.args.span.first byte c.args.against c.ending_from-place.ensures.parts.0 c.loop-run.invariant
    (λ j d low high. absurd (omega arith)) covers.0
