-- From a call on descriptors to what the request comes to: for `Machine::close_fd`, `Machine::dup`, `Machine::dup_to` and others.
use Rattle.lock_manager.proofs.Common.{arith, ℕ, ◌≡◌, subst, Ok, Err, Result, IfOk, List, MatchResult, common_steps, ∥∥₁_elim}
use Rattle.lock_manager.proofs.Common.{Memory, FdFault, Tables, Descriptors, StandFor, limits_of, Access, OpenGives, DupGives, ForkGives, HadMemory, Wait, Locks, waits_of, Machine, Reply, Request, OpenFile, Dup, Fork, Live, State, with_process, Outcome, answered, IsRefusal, ComesTo, AreOwned, Shows, machine_rules, machine_processes}
use Rattle.fd_table.specs.declared.FdFault.TheVariants as faults
use Rattle.fd_table.specs.TablesView.{processes_of as processes_in}
use Rattle.lock_manager.specs.declared.request.Reply.TheVariants as replies
use Rattle.lock_manager.specs.MachineView.{Answers}
use Rattle.lock_manager.proofs.kept.NextStateLemmas.{with_tables}

-- what a call that gives an X may answer, and what it leaves
abbrev pub Giving : Type 0 → Type 1
Giving X = Descriptors → Result X FdFault → Descriptors → Type 0

-- the call answered this, and the tables stand for what it left, whatever they stood for
abbrev pub Gave : {X : Type 0} → Giving X → Tables → Tables → Result X FdFault → Type 0
Gave Gives old new result = (D : Descriptors) → StandFor old D → (E : Descriptors) × Gives D result E × StandFor new E

-- what a request comes to by such a call: refused, or with this reply and this state after it
abbrev pub ComesBy : {X : Type 0} → Giving X → (State → Descriptors → X → State) → (X → Reply) → State → ℕ → ℕ → Outcome → Type 0
ComesBy {X} Gives after reply S p n outcome =
    (result : Result X FdFault) × (E : Descriptors) × Gives S.descriptors result E
    × MatchResult result (λ x. outcome ≡ answered (after S E x) p n (reply x)) (λ fault. IsRefusal S p n fault outcome)

-- the request comes to what the call comes to
abbrev pub IsServedBy : {X : Type 0} → Giving X → (State → Descriptors → X → State) → (X → Reply) → Machine → ℕ → Request → Type 0
IsServedBy Gives after reply old p request =
    (S : State) (n : ℕ) (outcome : Outcome) → ComesBy Gives after reply S p n outcome → ComesTo (machine_rules old) (machine_processes old) S p n request outcome

-- a call that succeeds
pub done_by : {X : Type 0} (Gives : Giving X) (after : State → Descriptors → X → State) (reply : X
    → Reply) (old new : Machine) (p : ℕ) (request : Request) (x : X)
    → IsServedBy Gives after reply old p request
    → ((S : State) (E : Descriptors) → Shows old S → Gives S.descriptors (Ok x) E → StandFor new.tables E → Shows new (after S E x))
    → Gave Gives old.tables new.tables (Ok x) → Answers old new p request (reply x)
done_by Gives after reply old new p request x served stands gave n S h = grind (arith, common_steps)

-- the fault of a call that gives an X
abbrev pub fault_of : (X : Type 0) → FdFault → Result X FdFault
fault_of X fault = Err fault

-- a refusal isn't want of memory
not_memory : (X : Type 0) (S : State) (p n : ℕ) (fault : FdFault) (outcome : Outcome) → IsRefusal S p n fault outcome → HadMemory (fault_of X fault)
not_memory X S p n fault outcome refusal memory e = grind (arith, common_steps)

-- a call that is refused, or that lacks memory
pub refused_by : {X : Type 0} (Gives : Giving X) (after : State → Descriptors → X → State) (reply : X
    → Reply) (old new : Machine) (p : ℕ) (request : Request) (fault : FdFault) (result : Result Reply Memory)
    → IsServedBy Gives after reply old p request
    → new.books ≡ old.books → new.states ≡ old.states → waits_of new.waits ≡ waits_of old.waits
    → (HadMemory (fault_of X fault) → Gave Gives old.tables new.tables (Err fault))
    → ((D : Descriptors) → StandFor old.tables D → StandFor new.tables D)
    → IfOk result (λ told. (S : State) (q n : ℕ) → IsRefusal S q n fault (answered S q n told))
    → IfOk result (Answers old new p request)
refused_by {X} Gives after reply old new p request fault (Ok told) served books states waits gave same refusal = λ n S h.
    let given = gave (not_memory X S p n fault (answered S p n told) (refusal S p n)) S.descriptors h.descriptors in (
      S,
      served S n (answered S p n told) (Err fault, given.0, given.1, refusal S p n),
      with_tables old new S S.descriptors books states waits h (same S.descriptors h.descriptors),
    )
refused_by Gives after reply old new p request fault (Err memory) served books states waits gave same refusal = tt

-- the same state with other descriptors
abbrev pub with_descriptors : {X : Type 0} → State → Descriptors → X → State
with_descriptors S E x = record S { descriptors = E }

-- open
abbrev pub Opens : Machine → ℕ → ℕ → Access → Giving ℕ
Opens old p file access D result E = OpenGives (limits_of old.tables) D p file access result E

pub served_by_open : (old : Machine) (p file : ℕ) (access : Access)
    → IsServedBy (Opens old p file access) with_descriptors replies.Fd old p (OpenFile file access)
unfolding machine_rules
served_by_open old p file access S n outcome h = grind (arith, common_steps)

-- dup
abbrev pub Dups : Machine → ℕ → ℕ → Giving ℕ
Dups old p fd D result E = DupGives (limits_of old.tables) D p fd result E

pub served_by_dup : (old : Machine) (p fd : ℕ) → IsServedBy (Dups old p fd) with_descriptors replies.Fd old p (Dup fd)
unfolding machine_rules
served_by_dup old p fd S n outcome h = grind (arith, common_steps)

-- fork
abbrev pub Forks : Machine → ℕ → ℕ → Giving (Unit {0})
Forks old p child D result E = ForkGives (processes_in old.tables) D p child result E

abbrev pub with_child_alive : ℕ → State → Descriptors → Unit {0} → State
with_child_alive child S E done = with_process (record S { descriptors = E }) child Live

pub served_by_fork : (old : Machine) (p child : ℕ) → IsServedBy (Forks old p child) (with_child_alive child) (λ done. replies.Ok) old p (Fork child)
unfolding machine_processes
served_by_fork old p child S n outcome h = grind (arith, common_steps)

-- a call that is never refused for want of memory isn't
pub never_memory : {X : Type 0} (Gives : Giving X) (old new : Tables) (locks : Locks) (waits : List Wait) (fault : FdFault)
    → AreOwned old locks waits → ((D E : Descriptors) (memory : Memory) → Gives D (Err (faults.Memory memory)) E → ⊥) → Gave Gives old new (Err fault)
    → ((memory : Memory) × (fault ≡ faults.Memory memory)) → ⊥
never_memory Gives old new locks waits fault owned never gave lacked =
    ∥∥₁_elim owned (λ x y. absurd x)
    (λ some. let given = gave some.0 some.1 in never some.0 given.0 lacked.0 (subst (λ f. Gives some.0 (Err f) given.0) lacked.1 given.1))
