-- Conversions by flock: for `flock_or_refuse`, `flock_or_wait`, `convert_or_refuse`, `convert_or_wait`, `flock` and `flock_wait`.
use Rattle.lock_server.proofs.Common.{arith, ℕ, ◌≡◌, ◌≢◌, ◌∙◌, inr, sym, subst, refl, Bool, false, true, Option, Some, None, common_steps, Mode, Read, Write, whole_file, Family, Whole, Policy, Pending, Answer, Rules, WaitAnswer, Table, FlockFrom, FlockWaitComesTo, FlockWaitFrom, IsRefused, ReleasesOn, SetsOn, keeps_place, SameState, State, IsReservedIn}
use Rattle.std.specs.Option.{option_eq}
use Rattle.range_core.specs.contracts.ModePartialEq.TheImpl.{eq-value as equality}
use Rattle.lock_server.specs.Calls.{FlockComesTo}
use Rattle.lock_server.specs.TableRoom.{HasFlockPlace, HasRoomFor}
use Rattle.lock_server.proofs.StateLemmas.{state_from_same}

-- a set of a flock lock, as the request asks for it
pub set_as_asked : (S : State) (file : ℕ) (wanted : Pending) (T : State) → wanted.family ≡ Whole
    → SetsOn S file Whole wanted.owner whole_file (Some wanted.mode) T → SetsOn S file wanted.family wanted.owner wanted.span (Some wanted.mode) T
set_as_asked S file wanted T family sets = grind (arith, common_steps)

-- a flock lock that is set to no mode is removed
pub released_by_set : (S : State) (file owner : ℕ) (T : State) → SetsOn S file Whole owner whole_file None T → ReleasesOn S file Whole owner T
released_by_set S file owner T sets = record { unlocks = sets.sets; waits = sets.waits; changes = sets.changes }

-- the room for a flock request has a place for its lock
pub place_from_room : (table : Table) (file : ℕ) (wait : Pending) → wait.family ≡ Whole → HasRoomFor table file wait → HasFlockPlace table file wait.owner
unfolding keeps_place
place_from_room table file wait family room = record {
  entry = room.entry;
  is = room.is;
  place = subst (λ (f : Family). IsReservedIn f room.entry wait) family room.room.lock;
}

-- a mode is the same as itself
mode_itself : (mode : Mode) → (equality).it mode mode ≡ true
mode_itself Read = refl
mode_itself Write = refl

-- what the test tells apart is apart
pub apart_by_test : (held : Option Mode) (mode : Mode) (answer : Bool) → answer ≡ option_eq (equality).it held (Some mode) → answer ≡ false → held ≢ Some mode
apart_by_test held mode answer says differs same = grind (arith, common_steps, mode_itself)

-- a request that isn't detected is never refused
pub never_refused : (policy : Policy) (S : State) (file : ℕ) (wanted : Pending) → wanted.detect ≡ false → ¬ IsRefused policy S file wanted
never_refused policy S file wanted undetected refused = let h : false ≡ true = sym undetected ∙ refused.0 in cc

-- the request of an owner with another mode, where a place was kept before
pub flock_from : (rules : Rules) (S P : State) (file : ℕ) (wanted : Pending) (held : Option Mode) (answer : Answer) (T : State)
    → held ≡ (S.files file).flocks wanted.owner → held ≢ Some wanted.mode → SameState S P → FlockFrom rules P file wanted held answer T
    → FlockComesTo rules S file wanted ((S.files file).flocks wanted.owner) answer T
flock_from rules S P file wanted held answer T is differs same from =
    subst (λ (h : Option Mode). FlockComesTo rules S file wanted h answer T) is
    (inr (differs, subst (λ (U : State). FlockFrom rules U file wanted held answer T) (state_from_same S P same) from))

pub flock_wait_from : (rules : Rules) (S P : State) (file : ℕ) (wanted : Pending) (held : Option Mode) (answer : WaitAnswer) (T : State)
    → held ≡ (S.files file).flocks wanted.owner → held ≢ Some wanted.mode → SameState S P → FlockWaitFrom rules P file wanted held answer T
    → FlockWaitComesTo rules S file wanted ((S.files file).flocks wanted.owner) answer T
flock_wait_from rules S P file wanted held answer T is differs same from =
    subst (λ (h : Option Mode). FlockWaitComesTo rules S file wanted h answer T) is
    (inr (differs, subst (λ (U : State). FlockWaitFrom rules U file wanted held answer T) (state_from_same S P same) from))
