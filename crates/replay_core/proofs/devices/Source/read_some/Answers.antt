use Rattle.replay_core.proofs.Common.{ℕ, ◌<◌, Option, Some, List, [], ◌∷◌, length, arith, subst}
use Rattle.std.proofs.Common.{slice_set}
use Rattle.replay_core.specs.Devices.{GivesByte, GivesSome}
use Rattle.replay_core.proofs.devices.Source.read_some.Goals as goal

-- one byte is at least one
one_byte : (old new : Option (List ℕ)) (room : List ℕ) (byte : ℕ) → 0 < length room → GivesByte old new (Some byte)
    → GivesSome old new (slice_set room 0 byte) 1
one_byte old new [] byte some gives = absurd (omega (arith, some))
one_byte old new (first ∷ rest) byte some gives = record { within = omega arith; consumed = gives.consumed; end = λ e. absurd (omega (arith, e)) }

pub returns-in-Some-clause-some : goal.returns-in-Some-clause-some
returns-in-Some-clause-some g c =
    let old = g.Self.Source.remaining c.args.self.now in
    let new = g.Self.Source.remaining c.read_byte.new.self in
    one_byte old new c.args.room.now c.in-Some.byte c.requires (subst (GivesByte old new) c.in-Some.is c.in_ok-byte.ensures.byte)
