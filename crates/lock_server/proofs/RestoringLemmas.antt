-- Locks, waits and grants that are put one after another: for `Table::restore_locks`, `Table::restore_waits` and others.
use Rattle.lock_server.proofs.Common.{ℕ, ◌≡◌, ◌∙◌, ◌<◌, ◌≤◌, ◌+◌, sym, ap, subst, Some, List, [], ◌∷◌, ◌++◌, Any, length, get_or, map, take, append-nil, append_assoc, map-append, take_all, take_more}
use Rattle.lock_server.proofs.Common.{Mode, Span, IsByteRange, Policy, Pending, Table, SetsOn, Suspends, FileState, SameFile, SetsBytes, SetsFlock, untouched, CrossesEach, JoinsEach, QueuesEach, SetsEach, AllBlocked, IsHeldBack, IsSettled, IsWaitBlocked, Crosses, IsDetectedOf, State, table_state, IsReadyAt}
use Rattle.lock_server.specs.States.{IsTaken}
use Rattle.lock_server.specs.TableView.{IsSwept}
use Rattle.lock_server.proofs.SettleLemmas.{crosses_then}
use Rattle.lock_server.proofs.StateLemmas.{SameFile-then, SameState-itself, file_from_same, state_from_same}
use Rattle.lock_server.proofs.SweptLemmas.{bytes_set, flock_set}

-- one lock more is set
sets_push : (S : State) (file : ℕ) (locks : List Pending) (M : State) (wanted : Pending) (T : State) → SetsEach S file locks M
    → ¬ IsHeldBack (M.files file) wanted → SetsOn M file wanted.family wanted.owner wanted.span (Some wanted.mode) T
    → SetsEach S file (locks ++ wanted ∷ []) T
sets_push S file [] M wanted T same free sets =
    let is : M ≡ S = state_from_same S M same in (
      T,
      subst (λ (U : State). ¬ IsHeldBack (U.files file) wanted) is free,
      subst (λ (U : State). SetsOn U file wanted.family wanted.owner wanted.span (Some wanted.mode) T) is sets,
      SameState-itself T,
    )
sets_push S file (first ∷ locks) M wanted T (between, open_first, sets_first, more) free sets =
    (between, open_first, sets_first, sets_push between file locks M wanted T more free sets)

-- one of a list
pub sets_next : {X : Type 0} (as_request : X → Pending) (S : State) (file : ℕ) (locks : List X) (i : ℕ) (d : X) (M T : State) → i < length locks
    → SetsEach S file (map as_request (take i locks)) M → ¬ IsHeldBack (M.files file) (as_request (get_or locks i d))
    → SetsOn M file (as_request (get_or locks i d)).family (as_request (get_or locks i d)).owner (as_request (get_or locks i d)).span
    (Some (as_request (get_or locks i d)).mode) T
    → SetsEach S file (map as_request (take (i + 1) locks)) T
sets_next as_request S file locks i d M T within before free sets =
    subst (λ (l : List Pending). SetsEach S file l T)
    (sym (ap (map as_request) (take_more locks i d within) ∙ map-append as_request (take i locks) (get_or locks i d ∷ [])))
    (sets_push S file (map as_request (take i locks)) M (as_request (get_or locks i d)) T before free sets)

-- all of a list
pub sets_all : {X : Type 0} (as_request : X → Pending) (S : State) (file : ℕ) (locks : List X) (i : ℕ) (T : State) → length locks ≤ i
    → SetsEach S file (map as_request (take i locks)) T → SetsEach S file (map as_request locks) T
sets_all as_request S file locks i T past sets = subst (λ (l : List _). SetsEach S file (map as_request l) T) (take_all i locks past) sets

-- one wait more joins
joins_push : (S : State) (file : ℕ) (waits : List Pending) (M : State) (wait : Pending) (T : State) → JoinsEach S file waits M
    → ¬ IsTaken M wait.ticket → Suspends M file wait T → JoinsEach S file (waits ++ wait ∷ []) T
joins_push S file [] M wait T same free suspends =
    let is : M ≡ S = state_from_same S M same in
    (T, subst (λ (U : State). ¬ IsTaken U wait.ticket) is free, subst (λ (U : State). Suspends U file wait T) is suspends, SameState-itself T)
joins_push S file (first ∷ waits) M wait T (between, open_first, joins_first, more) free suspends =
    (between, open_first, joins_first, joins_push between file waits M wait T more free suspends)

pub joins_next : (S : State) (file : ℕ) (waits : List Pending) (i : ℕ) (d : Pending) (M T : State) → i < length waits
    → JoinsEach S file (take i waits) M → ¬ IsTaken M (get_or waits i d).ticket → Suspends M file (get_or waits i d) T
    → JoinsEach S file (take (i + 1) waits) T
joins_next S file waits i d M T within before free suspends =
    subst (λ (l : List Pending). JoinsEach S file l T) (sym (take_more waits i d within))
    (joins_push S file (take i waits) M (get_or waits i d) T before free suspends)

pub joins_all : (S : State) (file : ℕ) (waits : List Pending) (i : ℕ) (T : State) → length waits ≤ i → JoinsEach S file (take i waits) T
    → JoinsEach S file waits T
joins_all S file waits i T past joins = subst (λ (l : List Pending). JoinsEach S file l T) (take_all i waits past) joins

-- no lock and no wait of a file with a lock that was set
pub swept_set : (table : Table) (file : ℕ) (F : FileState) (owner : ℕ) (span : Span) (mode : Mode) → IsByteRange span
    → SetsBytes F owner span (Some mode) ((table_state table).files file) → IsSwept table file
swept_set table file F owner span mode range sets idle =
    absurd (bytes_set F owner span mode ((table_state table).files file) range sets
    (record { bytes = λ other byte. sym (idle.locks.bytes other byte); flocks = λ other. sym (idle.locks.flocks other) }))

pub swept_set_flock : (table : Table) (file : ℕ) (F : FileState) (owner : ℕ) (mode : Mode)
    → SetsFlock F owner (Some mode) ((table_state table).files file) → IsSwept table file
swept_set_flock table file F owner mode sets idle =
    absurd (flock_set F owner mode ((table_state table).files file) sets
    (record { bytes = λ other byte. sym (idle.locks.bytes other byte); flocks = λ other. sym (idle.locks.flocks other) }))

-- one grant more
pub queues_next : (S : State) (tickets : List ℕ) (i : ℕ) (M T : State) → i < length tickets → QueuesEach S (take i tickets) M
    → QueuesEach M (get_or tickets i 0 ∷ []) T → QueuesEach S (take (i + 1) tickets) T
queues_next S tickets i M T within before next = record {
  files = λ file. SameFile-then (S.files file) (M.files file) (T.files file) (before.files file) (next.files file);
  grants = next.grants ∙ ap (λ (l : List ℕ). l ++ get_or tickets i 0 ∷ []) before.grants ∙ append_assoc S.grants (take i tickets) (get_or tickets i 0 ∷ [])
      ∙ ap (λ (l : List ℕ). S.grants ++ l) (sym (take_more tickets i 0 within));
  crossed = λ owner. next.crossed owner ∙ before.crossed owner;
}

pub queues_all : (S : State) (tickets : List ℕ) (i : ℕ) (T : State) → length tickets ≤ i → QueuesEach S (take i tickets) T → QueuesEach S tickets T
queues_all S tickets i T past queues = subst (λ (l : List ℕ). QueuesEach S l T) (take_all i tickets past) queues

-- one crossed owner more
pub crosses_next : (S : State) (owners : List ℕ) (i : ℕ) (M T : State) → i < length owners → CrossesEach S (take i owners) M
    → CrossesEach M (get_or owners i 0 ∷ []) T → CrossesEach S (take (i + 1) owners) T
crosses_next S owners i M T within before next = record {
  files = λ file. SameFile-then (S.files file) (M.files file) (T.files file) (before.files file) (next.files file);
  grants = next.grants ∙ before.grants;
  crossed = subst (λ (l : List ℕ). Crosses S l T) (sym (take_more owners i 0 within))
      (crosses_then S M T (take i owners) (get_or owners i 0 ∷ [])
      (λ owner has. record {
        file = has.file;
        among = subst (λ (F : FileState). Any (IsDetectedOf owner) F.waits) (file_from_same (M.files has.file) (T.files has.file) (next.files has.file)) has.among;
      })
      before.crossed next.crossed);
}

pub crosses_all : (S : State) (owners : List ℕ) (i : ℕ) (T : State) → length owners ≤ i → CrossesEach S (take i owners) T → CrossesEach S owners T
crosses_all S owners i T past crosses = subst (λ (l : List ℕ). CrossesEach S l T) (take_all i owners past) crosses

-- a wait that isn't blocked stands among those on a file that isn't settled
blocked_there : (policy : Policy) (F : FileState) (earlier before : List Pending) (wait : Pending) (after : List Pending)
    → AllBlocked policy F earlier (before ++ wait ∷ after) → IsWaitBlocked policy F (earlier ++ before) wait
blocked_there policy F earlier [] wait after all = subst (λ (es : List Pending). IsWaitBlocked policy F es wait) (sym (append-nil earlier)) all.0
blocked_there policy F earlier (first ∷ before) wait after all =
    subst (λ (es : List Pending). IsWaitBlocked policy F es wait) (append_assoc earlier (first ∷ []) before)
    (blocked_there policy F (earlier ++ first ∷ []) before wait after all.1)

pub unsettled : (policy : Policy) (F : FileState) (place : ℕ) → IsReadyAt policy F place → ¬ IsSettled policy F
unsettled policy F place ready settled =
    ready.is_next.ready (blocked_there policy F [] ready.before ready.wait ready.after
    (subst (λ (waits : List Pending). AllBlocked policy F [] waits) ready.is_next.place settled))

pub settled_untouched : (policy : Policy) (F : FileState) → SameFile untouched F → IsSettled policy F
settled_untouched policy F same = subst (λ (G : FileState). IsSettled policy G) (sym (file_from_same untouched F same)) tt
