use Rattle.std.proofs.Common.{rules, ◌≡◌, ◌∙◌, true, false, sym}
use Rattle.std.specs.Prelude.{bytes_eq}
use Rattle.expectations.proofs.LineLemmas.{line_found, line_more}
use Rattle.expectations.proofs.seen.has_line.Goals as goal

pub returns-then-eq : goal.returns-then-eq
returns-then-eq c =
    let first = c.first_line.result.0.now in
    let line = c.args.line.now in
    let same : bytes_eq first line ≡ true = search rules in
    sym (c.loop-line.invariant ∙ line_found c.loop-line.rest.now first c.first_line.result.1.now line c.first_line.ensures same)

pub loop-line-preserved : goal.loop-line-preserved
loop-line-preserved c =
    let first = c.first_line.result.0.now in
    let line = c.args.line.now in
    let other : bytes_eq first line ≡ false = search rules in
    c.loop-line.invariant ∙ line_more c.loop-line.rest.now first c.first_line.result.1.now line c.first_line.ensures other
