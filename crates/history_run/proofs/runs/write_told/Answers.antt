use Rattle.std.proofs.Common.{OnErr, subst, sym}
use Rattle.std.specs.Prelude.{IsTrue}
use Rattle.history_check.specs.Checked.{verdict_in}
use Rattle.history_check.specs.Told.{IsTold}
use Rattle.replay_core.specs.Devices.{TakesFront}
use Rattle.history_run.proofs.ToldLemmas.{told_where}
use Rattle.history_run.proofs.runs.write_told.Goals as goal

pub returns-in_ok-text-in-Legal-2-clause-ok : goal.returns-in_ok-text-in-Legal-2-clause-ok
returns-in_ok-text-in-Legal-2-clause-ok g c =
    told_where c.write_all.result c.args.judging c.args.check.now c.in_ok-text-in-Legal-2.text.items c.deref.result.now _ c.deref.ensures.value
    (c.in_ok-text-in-Legal-2.ensures c.args.judging c.requires.sound) c.write_all.ensures.ok

pub returns-in_ok-text-in-Legal-2-clause-front : goal.returns-in_ok-text-in-Legal-2-clause-front
returns-in_ok-text-in-Legal-2-clause-front g c = λ is.
    let front = subst
    (λ r. OnErr r (TakesFront (g.W.Sink.written c.args.sink.now) (g.W.Sink.written c.write_all.new.sink) c.deref.result.now
    × IsTrue (g.W.Sink.failed c.write_all.new.sink))) is c.write_all.ensures.front in
    record {
      text = c.deref.result.now;
      told = subst (IsTold c.args.judging.states (verdict_in c.args.check.now)) (sym c.deref.ensures.value)
          (c.in_ok-text-in-Legal-2.ensures c.args.judging c.requires.sound);
      written = front.0;
    }
