use Rattle.std.proofs.Common.{ℕ, ◌<◌, arith, length}
use Rattle.cluster_view.specs.declared.absence.Seat.{Seat}
use Rattle.cluster_view_c.specs.Outcomes.{IsPresenceNumber}
use Rattle.cluster_view_c.proofs.WriteLemmas.{blank_seat, written_more}
use Rattle.cluster_view_c.proofs.calls.cluster_view_presences.Goals as goal

pub loop-place-preserved : goal.loop-place-preserved
loop-place-preserved c =
    let room : c.loop-place.place < length c.loop-place.presences = omega (arith, c.requires) in
    written_more (λ (seat : Seat) (number : ℕ). IsPresenceNumber c.args.hellos.now seat c.args.begins number) c.args.seats.now c.loop-place.presences
    c.loop-place.place c.presence.result blank_seat room c.loop-place-test.true c.loop-place.invariant
    (record { presence = c.presence_of.result; is = c.presence_of.ensures; written = c.presence.ensures })
