use Rattle.replay_core.proofs.Common.{rules, ◌≡◌, ◌∙◌, sym, subst}
use Rattle.std.proofs.lemmas.List.{take_rest}
use Rattle.replay_core.specs.Devices.{TakesSome}
use Rattle.replay_core.proofs.DeviceLemmas.{HasWritten, more_written}
use Rattle.replay_core.proofs.replays.write_all.Goals as goal

pub loop-rest-preserved : goal.loop-rest-preserved
loop-rest-preserved g c =
    let sink = c.args.sink.now in
    let taken : TakesSome (g.W.Sink.written c.loop-rest.sink) (g.W.Sink.written c.write_some.new.self) c.loop-rest.rest.now c.in_ok-count.count = search rules in
    let sound : g.W.Sink.failed c.write_some.new.self ≡ g.W.Sink.failed c.loop-rest.sink = search rules in (
      subst (HasWritten (g.W.Sink.written sink) (g.W.Sink.written c.write_some.new.self) c.args.text.now) (sym (take_rest c.loop-rest.rest.now c.in_ok-count.count))
          (more_written (g.W.Sink.written sink) (g.W.Sink.written c.loop-rest.sink) (g.W.Sink.written c.write_some.new.self) c.args.text.now c.loop-rest.rest.now c.in_ok-count.count
          c.loop-rest.invariant.0 taken.appended),
      sound ∙ c.loop-rest.invariant.1,
    )
