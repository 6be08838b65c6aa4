use Rattle.lock_server.proofs.Common.{◌≡◌, ◌∙◌, true, false, sym, subst, ◌↔◌, IsTrue, file_state, is_flock_wait}
use Rattle.std.specs.Prelude.{Any, Bool}
use Rattle.lock_server.proofs.PlaceFromLemmas.{any_passes}
use Rattle.lock_server.proofs.file.LockFile.waits_for_flock.Goals as goal

pub returns-then-flock_room : goal.returns-then-flock_room
unfolding file_state
returns-then-flock_room c =
    let waits = c.args.self.now.waits.items in
    subst (λ (told : Bool). IsTrue told ↔ Any (λ wait. IsTrue (is_flock_wait c.args.owner wait)) waits) (sym c.is_some.ensures)
    (any_passes (is_flock_wait c.args.owner) (λ wait. IsTrue (is_flock_wait c.args.owner wait)) (λ wait. (λ is. is, λ is. is)) waits c.first_of.result c.first_of.ensures.first)

pub returns-else-flock_room : goal.returns-else-flock_room
unfolding file_state
returns-else-flock_room c = (
  λ told. absurd (let none = c.if-flock_room.false in let h : false ≡ true = sym none ∙ told in cc),
  λ any. absurd (let place = c.args.self.now.room.places c.args.owner any in let told = c.flock_room.ensures in let none = c.if-flock_room.false in let h : true ≡ false = cc in cc),
)
