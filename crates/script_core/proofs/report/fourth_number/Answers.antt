use Rattle.script_core.proofs.Common.{rules, ◌<◌, ◌^◌, IfSome, decimal}
use Rattle.script_core.proofs.ReportReadingLemmas.{fourth_of, number_read}
use Rattle.script_core.proofs.report.fourth_number.Goals as goal

pub returns-in-len4-up : goal.returns-in-len4-up
returns-in-len4-up c = λ first second third n more small is.
    let within : IfSome c.natural_of.result (λ m. m < 2 ^ 64) = search rules in
    number_read _ n c.natural_of.result small (fourth_of c.args.words.now _ first second third (decimal n) more is) c.natural_of.ensures within
