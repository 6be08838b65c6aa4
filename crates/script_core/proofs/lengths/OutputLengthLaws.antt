-- Outputs are short: their arrivals, their notes and the locks that they leave are few.
use Rattle.script_core.proofs.Common.{ℕ, length, length-append, flat_map, ap, arith, requests_sent, entry_line, processes_in}
use Rattle.script_core.specs.Output.{OutputsAreShort}
use Rattle.script_core.proofs.RunFitLemmas.{run_of_output, output_fits}
use Rattle.script_core.proofs.ReportFitLemmas.{sent_small}
use Rattle.script_core.proofs.OutputReadingLaws.{small_limit}
use Rattle.script_core.proofs.lengths.ArrivalLengthLemmas.{read_length, few_read}
use Rattle.script_core.proofs.lengths.JournalLengthLemmas.{drained_length, events_seventh}
use Rattle.script_core.proofs.lengths.StateCountLemmas.{few_in_output}
use Rattle.script_core.proofs.lengths.TextLengthLemmas.{entries_length, report_length}

pub outputs_short : OutputsAreShort
outputs_short bytes text output =
    let script = output.script in
    let limits = script.rules.limits in
    let processes = processes_in script in
    let journal = output.journal in
    let fits = output_fits bytes text output in
    let read = read_length bytes script output.accepted in
    let drained = drained_length script.rules processes script.arrivals journal output.state output.drained in
    let seventh = events_seventh limits journal fits.writable in
    let few = few_in_output bytes text output in
    let notes = few.notes in
    let locks = few.locks_and_waits output.is_report.held output.is_report.is_held in
    let entries = entries_length limits journal fits.writable in
    let sent = λ (p : ℕ). length (requests_sent p script.arrivals) in
    let small = sent_small script.arrivals (few_read bytes script output.accepted) in
    let report = report_length limits processes output.state journal sent output.report (small_limit limits) fits.after fits.writable fits.numbers
    (run_of_output bytes text output).numbered small output.is_report in
    let whole = ap length output.is in
    let parts = length-append (flat_map entry_line journal) output.report in
    omega (arith, read, drained, seventh, notes, locks, entries, report, whole, parts)
