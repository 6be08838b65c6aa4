use Rattle.std.proofs.Common.{rules, ◌≡◌, ◌∙◌, ◌-◌, ◌≤◌, ◌∷◌, ℕ, List, [], ap, arith, length, length-append, length-take, subst, sym, take}
use Rattle.std.proofs.lemmas.Result.{err_from_is_err_and}
use Rattle.script_core.specs.declared.TheConstants.{SCRIPT_MAX}
use Rattle.expectations.specs.Judging.{TellsLine}
use Rattle.expectations.proofs.LineLemmas.{empty_list}
use Rattle.expectations.proofs.WayLemmas.{Way, line_fault, script_lines, way_next, way_start, way_tells}
use Rattle.expectations.proofs.judged.told_text.Goals as goal

pub loop-rest-init : goal.loop-rest-init
loop-rest-init c = subst (λ (l : List ℕ). Way c.args.bytes.now c.args.bytes.now l 0) (sym c.new-told.ensures.items) (way_start c.args.bytes.now)

pub push_line-requires : goal.push_line-requires
push_line-requires c =
    let way = c.loop-rest.invariant in
    let line = c.first_line.result.0.now in
    let are = script_lines c.args.bytes.now c.loop-rest.rest.now c.loop-rest.told.items c.loop-rest.number line c.first_line.result.1.now way c.first_line.ensures in
    let long = ap length are ∙ length-append way.done (line ∷ []) in omega (arith, long, way.number_is)

pub returns-in_err-push_line-clause-fault : goal.returns-in_err-push_line-clause-fault
returns-in_err-push_line-clause-fault c =
    let way = c.loop-rest.invariant in
    let bytes = c.args.bytes.now in
    let rest = c.loop-rest.rest.now in
    let old = c.loop-rest.told.items in
    let number = c.loop-rest.number in
    let line = c.first_line.result.0.now in
    let behind = c.first_line.result.1.now in
    let script = take (length bytes - length behind) bytes in
    let are = script_lines bytes rest old number line behind way c.first_line.ensures in
    let fits : length bytes ≤ SCRIPT_MAX = c.if-bytes-gt-SCRIPT_MAX.false in
    let short : length script ≤ SCRIPT_MAX = omega (arith, length-take (length bytes - length behind) bytes, fits) in
    let failed = err_from_is_err_and c.from_residual.result c.from_residual.ensures.1 in
    rw (failed.1, failed.2) (line_fault bytes rest old number line behind script _ way c.first_line.ensures fits short are c.in_err-push_line.ensures.fault)

pub loop-rest-preserved : goal.loop-rest-preserved
loop-rest-preserved c =
    let way = c.loop-rest.invariant in
    let bytes = c.args.bytes.now in
    let rest = c.loop-rest.rest.now in
    let old = c.loop-rest.told.items in
    let number = c.loop-rest.number in
    let line = c.first_line.result.0.now in
    let behind = c.first_line.result.1.now in
    let are = script_lines bytes rest old number line behind way c.first_line.ensures in
    let told = c.in_ok-push_line.ensures.told in
    way_next bytes rest old number line behind told.0 c.push_line.new.told.items way c.first_line.ensures
    (subst (λ (l : List (List ℕ)). TellsLine l line told.0) are told.1) told.2

pub returns-clause-told : goal.returns-clause-told
returns-clause-told c =
    let rest = c.loop-rest.rest.now in
    let none : length rest ≡ 0 = search rules in
    let way = subst (λ (l : List ℕ). Way c.args.bytes.now l c.loop-rest.told.items c.loop-rest.number) (empty_list rest none) c.loop-rest.invariant in
    (c.in_ok-parse_script.field-0, c.in_ok-parse_script.ensures.accepted, way_tells c.args.bytes.now c.loop-rest.told.items c.loop-rest.number way)
