-- Which states a `Machine` shows (the words are this project's choice).
use Rattle.std.specs.Prelude.{◌≡◌, ◌<◌, ℕ, List, true, slice_get}
use Rattle.lock_book.specs.declared.Owner.{Owner}
use Rattle.lock_book.specs.declared.Owner.TheVariants.{Description}
use Rattle.lock_book.specs.Changes.{mode_in, flock_mode_in}
use Rattle.fd_table.specs.declared.TheConstants.{FILES}
use Rattle.fd_table.specs.declared.tables.Look.{Look}
use Rattle.fd_table.specs.TablesView.{StandFor}
use Rattle.wait_core.specs.declared.Wait.{Wait}
use Rattle.wait_core.specs.Locks.{Locks, locks_of}
use Rattle.wait_core.specs.WaitsView.{waits_of}
use Rattle.lock_manager.specs.declared.request.Rules.{Rules}
use Rattle.lock_manager.specs.declared.request.ProcState.{ProcState}
use Rattle.lock_manager.specs.declared.machine.Machine.{Machine}
use Rattle.lock_manager.specs.declared.sections.Sections.{Sections}
use Rattle.lock_manager.specs.declared.request.Request.{Request}
use Rattle.lock_manager.specs.declared.request.Reply.{Reply}
use Rattle.lock_manager.specs.declared.request.Note.{Note}
use Rattle.lock_manager.specs.State.{State, state_numbered}
use Rattle.lock_manager.specs.Outcomes.{answered}
use Rattle.lock_manager.specs.SectionsView.{AreOf}
use Rattle.lock_manager.specs.Step.{ComesTo}
use Rattle.lock_manager.specs.WaitsKept.{has_place_at}
use Rattle.lock_manager.specs.FlockCalls.{wanted_flock}
use Rattle.lock_manager.specs.DescriptionLocks.{MayWait}
use Rattle.lock_manager.specs.declared.request.ProcState.TheVariants.{Live}

-- the rules of the machine
unfoldable pub machine_rules : Machine → Rules
machine_rules machine = machine.rules

-- how many processes there are
unfoldable pub machine_processes : Machine → ℕ
machine_processes machine = machine.processes

-- where a process stands
unfoldable pub machine_state : Machine → ℕ → ProcState
machine_state machine p = state_numbered machine.states.items p

-- the locks that are held
unfoldable pub machine_locks : Machine → Locks
machine_locks machine = locks_of machine.books.items

-- the waits in order of arrival
unfoldable pub machine_waits : Machine → List Wait
machine_waits machine = waits_of machine.waits

-- the machine shows the state: they have the same modes, descriptors, waits and process states
pub record Shows (machine : Machine) (S : State) : Type 0 where
  pub bytes : (file : ℕ) (owner : Owner) (byte : ℕ) → (machine_locks machine).bytes file owner byte ≡ mode_in S.changes file owner byte
  pub flocks : (file description : ℕ) → (machine_locks machine).flocks file description ≡ flock_mode_in S.flock_changes file description
  pub descriptors : StandFor machine.tables S.descriptors
  pub waits : machine_waits machine ≡ S.waits
  pub states : (p : ℕ) → machine_state machine p ≡ S.states p

-- the rules and the number of processes stay
pub record SameRules (old new : Machine) : Type 0 where
  pub rules : machine_rules new ≡ machine_rules old
  pub processes : machine_processes new ≡ machine_processes old

-- new shows each state that old shows, with the same locks, waits and process states, under the same rules
pub record SameMachine (old new : Machine) : Type 0 where
  pub shows : (S : State) → Shows old S → Shows new S
  pub bytes : (file : ℕ) (owner : Owner) (byte : ℕ) → (machine_locks new).bytes file owner byte ≡ (machine_locks old).bytes file owner byte
  pub flocks : (file description : ℕ) → (machine_locks new).flocks file description ≡ (machine_locks old).flocks file description
  pub waits : machine_waits new ≡ machine_waits old
  pub states : (p : ℕ) → machine_state new p ≡ machine_state old p
  pub rules : machine_rules new ≡ machine_rules old
  pub processes : machine_processes new ≡ machine_processes old

-- in each state that old shows the request comes to this reply alone, and new shows the state that it leaves
abbrev pub Answers : Machine → Machine → ℕ → Request → Reply → Type 0
Answers old new p request reply =
    (n : ℕ) (S : State) → Shows old S →
    (T : State) × ComesTo (machine_rules old) (machine_processes old) S p n request (answered T p n reply) × Shows new T

-- in each state that old shows the request, number n of process p, comes to these notes, and new shows the state that it leaves
abbrev pub Tells : Machine → Machine → ℕ → ℕ → Request → List Note → Type 0
Tells old new p n request told =
    (S : State) → Shows old S →
    (T : State) × ComesTo (machine_rules old) (machine_processes old) S p n request (record { told = told; after = T }) × Shows new T

-- the same, where the table says who is in which section and whose last answer was an error
abbrev pub TellsBy : Sections → Machine → Machine → ℕ → ℕ → Request → List Note → Type 0
TellsBy sections old new p n request told =
    (S : State) → Shows old S → AreOf sections S →
    (T : State) × ComesTo (machine_rules old) (machine_processes old) S p n request (record { told = told; after = T }) × Shows new T

-- each process that lives in old lives in new
abbrev pub StayLive : Machine → Machine → Type 0
StayLive old new = (p : ℕ) → machine_state old p ≡ Live → machine_state new p ≡ Live

-- each place that old keeps for a flock lock new keeps too
abbrev pub KeepPlaces : Machine → Machine → Type 0
KeepPlaces old new = (file description : ℕ) → has_place_at (slice_get old.books.items file) description ≡ true
    → has_place_at (slice_get new.books.items file) description ≡ true

-- the process of the request lives, and asks by flock for this lock of a description that it has open (flock(2))
pub record IsFlockAsked (machine : Machine) (look : Look) (wanted : Wait) : Type 0 where
  pub is : wanted ≡ wanted_flock wanted.p wanted.n look wanted.mode
  pub file : look.file < FILES
  pub may_wait : MayWait machine.tables wanted.p look.file (Description look.desc)
  pub live : machine_state machine wanted.p ≡ Live
