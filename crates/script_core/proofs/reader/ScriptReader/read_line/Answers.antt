use Rattle.script_core.proofs.Common.{◌++◌, ◌∷◌, [], ◌∙◌, Ok, ap, subst, sym, arith, LineGives, limits_of, meaning_of, reading_after, IsProcess, HasRead, reading_of}
use Rattle.script_core.specs.declared.line.Line.TheVariants as lines
use Rattle.script_core.specs.ScriptView.{rules_in, lines_in}
use Rattle.script_core.proofs.ProcessLemmas.{arrival_said, rules_kept}
use Rattle.script_core.proofs.ScriptLemmas.{fault_next, at_hand_next, some_arrival, some_behind}
use Rattle.script_core.proofs.reader.ScriptReader.read_line.Goals as goal

pub returns-in-Ok-clause-arrival : goal.returns-in-Ok-clause-arrival
unfolding HasRead rules_in lines_in
returns-in-Ok-clause-arrival c bytes arrivals read =
    let old = c.args.self.now in
    let before = reading_of old.header arrivals in
    let cut = c.first_line.ensures.lines in
    let line = c.first_line.result.0.now in
    rw c.apply.ensures.arrival (some_arrival c.in-Ok.said _ (λ p request is.
    let gives = subst (λ said. LineGives before line (Ok said)) is (c.in-Ok.ensures arrivals read.heads) in
    let limits = ap limits_of (c.apply.ensures.read arrivals ∙ ap (reading_after before) is) in (
      subst (λ limits. IsProcess limits p) (sym limits) (arrival_said before line p request gives).process,
      at_hand_next bytes old.rest.now c.first_line.result.1.now old.lines line old.header old.at_top arrivals (lines.Arrival p request) read cut gives tt,
      omega (arith, read.few, read.fits, c.requires),
    )))

pub returns-in-Ok-clause-rules : goal.returns-in-Ok-clause-rules
unfolding HasRead rules_in
returns-in-Ok-clause-rules c bytes arrivals arrival read =
    let before = arrivals ++ arrival ∷ [] in
    ap (λ reading. (meaning_of reading).rules) (c.apply.ensures.read before)
    ∙ rules_kept (reading_of c.args.self.now.header before) c.first_line.result.0.now c.in-Ok.said (some_behind arrivals arrival) (c.in-Ok.ensures before read.heads)

pub returns-in-Err-clause-refused : goal.returns-in-Err-clause-refused
unfolding HasRead
returns-in-Err-clause-refused c bytes arrivals read =
    fault_next bytes c.args.self.now.rest.now c.first_line.result.1.now c.args.self.now.lines c.first_line.result.0.now c.args.self.now.header c.args.self.now.at_top arrivals c.in-Err.cause read
    c.first_line.ensures.lines (c.in-Err.ensures arrivals read.heads)
