use Rattle.std.proofs.Common.{◌≡◌, Err, ap, refl, rules}
use Rattle.history_check.specs.Checked.{verdict_in}
use Rattle.history_check.specs.Told.{outcome_of}
use Rattle.replay_core.specs.Devices.{TakesFront}
use Rattle.history_run.specs.declared.runs.HistoryFault.{HistoryFault}
use Rattle.history_run.specs.declared.runs.HistoryFault.TheVariants.{Write}
use Rattle.history_run.proofs.ToldLemmas.{tells}
use Rattle.history_run.proofs.runs.judge_history.Goals as goal

pub returns-in_err-write_told-clause-write : goal.returns-in_err-write_told-clause-write
returns-in_err-write_told-clause-write g c = λ is.
    let fault = c.in_err-write_told.field-0.0 in
    let same : fault ≡ Write = search rules in
    let outcome = outcome_of (verdict_in c.in_ok-check.check) in (
      c.in_err-write_told.ensures.failed (ap (λ (f : HistoryFault). Err f) same),
      outcome,
      tells c.args.judging (g.R.Source.remaining c.args.source.now) (g.R.Source.remaining c.read_history.new.source) c.in_ok-check.check outcome
          (λ text. TakesFront (g.W.Sink.written c.args.sink.now) (g.W.Sink.written c.write_told.new.sink) text) c.in_ok-check.ensures.whole refl
          (c.in_err-write_told.ensures.front (ap (λ (f : HistoryFault). Err f) same)),
    )
