use Rattle.replay_core.proofs.Common.{ℕ, List, subst, Appends}
use Rattle.std.proofs.Common.{IsTrue}
use Rattle.std.proofs.lemmas.Result.{on_ok_weaker, IfErr-at_err}
use Rattle.replay_core.specs.Devices.{TakesFront}
use Rattle.replay_core.specs.Replays.{IsTextIn}
use Rattle.replay_core.proofs.OutputLemmas.{writes}
use Rattle.replay_core.proofs.replays.replay.Goals as goal

pub returns-clause-ok : goal.returns-clause-ok
returns-clause-ok g c =
    let bytes = c.in_ok-bytes.bytes in
    let text = c.in_ok-text.text in
    let out = c.in_ok-text.ensures.text in
    let short = c.in_ok-text.ensures.short in
    let old = g.W.Sink.written c.args.sink.now in
    let new = g.W.Sink.written c.write_all.new.sink in
    on_ok_weaker c.write_all.result
    (λ appended. writes (IsTextIn c.args.detail) (g.R.Source.remaining c.args.source.now) (g.R.Source.remaining c.read_script.new.source)
    (λ (l : List ℕ). Appends old new l) bytes.items text.items c.in_ok-bytes.ensures.whole short out
    (subst (λ (l : List ℕ). Appends old new l) c.deref.ensures.value appended))
    c.write_all.ensures.ok

pub returns-clause-write : goal.returns-clause-write
returns-clause-write g c failed =
    let bytes = c.in_ok-bytes.bytes in
    let text = c.in_ok-text.text in
    let out = c.in_ok-text.ensures.text in
    let short = c.in_ok-text.ensures.short in
    let old = g.W.Sink.written c.args.sink.now in
    let new = g.W.Sink.written c.write_all.new.sink in
    let front : TakesFront old new c.deref.result.now × IsTrue (g.W.Sink.failed c.write_all.new.sink) =
    IfErr-at_err (λ _. TakesFront old new c.deref.result.now × IsTrue (g.W.Sink.failed c.write_all.new.sink)) failed
    c.write_all.ensures.front in (
      front.1,
      writes (IsTextIn c.args.detail) (g.R.Source.remaining c.args.source.now) (g.R.Source.remaining c.read_script.new.source)
          (λ (l : List ℕ). TakesFront old new l) bytes.items text.items c.in_ok-bytes.ensures.whole short out
          (subst (λ (l : List ℕ). TakesFront old new l) c.deref.ensures.value front.0),
    )
