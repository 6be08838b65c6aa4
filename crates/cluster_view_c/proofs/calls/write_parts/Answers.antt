use Rattle.std.proofs.Common.{ℕ, ◌<◌, arith, length}
use Rattle.cluster_view.specs.declared.hello.Hello.{Hello}
use Rattle.cluster_view_c.specs.Outcomes.{IsPartNumber}
use Rattle.cluster_view_c.proofs.WriteLemmas.{blank_hello, written_more}
use Rattle.cluster_view_c.proofs.calls.write_parts.Goals as goal

pub loop-place-preserved : goal.loop-place-preserved
loop-place-preserved c =
    let room : c.loop-place.place < length c.loop-place.parts = omega (arith, c.requires.same) in
    written_more (λ (hello : Hello) (number : ℕ). IsPartNumber c.args.decision c.args.hellos.now hello number) c.args.hellos.now c.loop-place.parts
    c.loop-place.place c.part.result blank_hello room c.loop-place-test.true c.loop-place.invariant
    (record { part = c.part_of.result; is = c.part_of.ensures; written = c.part.ensures })
