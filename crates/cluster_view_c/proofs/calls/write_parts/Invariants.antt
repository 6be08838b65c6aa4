use Rattle.std.proofs.Common.{ℕ, ◌<◌}
use Rattle.std.specs.Prelude.{slice_index, slice_index_or}
use Rattle.cluster_view.specs.declared.hello.Hello.{Hello}
use Rattle.cluster_view_c.specs.Outcomes.{IsPartNumber}
use Rattle.cluster_view_c.proofs.calls.write_parts.Given as goal

abbrev pub invariant-loop-place : goal.invariant-loop-place
invariant-loop-place l = (k : ℕ) (hello : Hello) → k < l.place → IsPartNumber l.decision l.hellos (slice_index_or l.hellos k hello) (slice_index l.parts k)
