use Rattle.replay_core.proofs.Common.{sym, subst}
use Rattle.replay_core.specs.declared.checks.Outcome.TheVariants.{Illegal}
use Rattle.replay_core.specs.declared.job.Job.{Job}
use Rattle.replay_core.specs.Jobs.{outputs_of}
use Rattle.replay_core.specs.Replays.{WritesFront}
use Rattle.replay_core.proofs.job.perform.Goals as goal

pub returns-in-Check-clause-write : goal.returns-in-Check-clause-write
returns-in-Check-clause-write g c = λ failed.
    let told = c.check.ensures.write failed in (
      told.0,
      Illegal,
      subst
          (λ (job : Job). WritesFront (outputs_of job Illegal) (g.R.Source.remaining c.args.source.now) (g.R.Source.remaining c.check.new.source)
          (g.W.Sink.written c.args.sink.now) (g.W.Sink.written c.check.new.sink))
          (sym c.in-Check.is) told.1,
    )
