use Rattle.std.proofs.Common.{ℕ, ◌<◌}
use Rattle.std.specs.Prelude.{slice_index, slice_index_or}
use Rattle.cluster_view.specs.declared.absence.Seat.{Seat}
use Rattle.cluster_view_c.specs.Outcomes.{IsPresenceNumber}
use Rattle.cluster_view_c.proofs.calls.cluster_view_presences.Given as goal

abbrev pub invariant-loop-place : goal.invariant-loop-place
invariant-loop-place l = (k : ℕ) (seat : Seat) → k < l.place → IsPresenceNumber l.hellos (slice_index_or l.seats k seat) l.begins (slice_index l.presences k)
