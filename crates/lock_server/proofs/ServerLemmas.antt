-- What the server's calls come to, by what the table's do: for `LockServer::cancel`, `LockServer::convert`, `LockServer::flock_or_refuse` and others.
use Rattle.lock_server.proofs.Common.{ℕ, inr, sym, subst, refl, false, Option, Some, None, List, ∥∥₁_map, Mode, Span, Family, Bytes, Policy, Pending, Table, owners_of, IsSettled, IsWaitBlocked, State, SameState, SettlesFile, IsSafe, AreTicketsOnce, table_state, FetchComesTo, SetsOn, Releases, ReleasesOn, IsRefused, Suspends, byte_request, given_by, no_ticket}
use Rattle.lock_server.specs.declared.Answer.TheVariants.{Done}
use Rattle.lock_server.specs.TableView.{StaysSafe}
use Rattle.lock_server.specs.Calls.{Changes, SetComesTo, IsSetHeldBack}
use Rattle.lock_server.proofs.JoinLemmas.{safe_but_joined, safe_joined}
use Rattle.lock_server.proofs.SafeLemmas.{Moves, moves_given, moves_settled, moves_unset, safe_but, safe_fetched, safe_moved, safe_settled, safe_with}
use Rattle.lock_server.proofs.TakenLemmas.{tickets_once}
use Rattle.lock_server.proofs.StateLemmas.{state_from_same}

-- the file is settled, and comes to rest
pub record ComesToRest (policy : Policy) (S : State) (file : ℕ) (T : State) : Type 0 where
  pub settles : SettlesFile policy S file T
  pub settled : IsSettled policy (T.files file)

-- and then a sweep changes nothing
pub swept : (policy : Policy) (S : State) (file : ℕ) (T U : State) → ComesToRest policy S file T → SameState T U → ComesToRest policy S file U
swept policy S file T U rest same = subst (λ (V : State). ComesToRest policy S file V) (sym (state_from_same T U same)) rest

-- what the server holds to after a change of one file that came to rest
pub safe_at_rest : (policy : Policy) (given : List ℕ) (S B : State) (file : ℕ) (T : State) → IsSafe policy S → Moves given S file B
    → ComesToRest policy B file T → AreTicketsOnce T → IsSafe policy T
safe_at_rest policy given S B file T safe moves rest once = safe_settled policy given S B file T (safe_but policy file S safe) moves rest.settles rest.settled once

-- a set, and then rest
pub changes_at_rest : (policy : Policy) (S : State) (file : ℕ) (family : Family) (owner : ℕ) (span : Span) (mode : Option Mode) (B T : State)
    → SetsOn S file family owner span mode B → ComesToRest policy B file T → Changes policy S file family owner span mode T
changes_at_rest policy S file family owner span mode B T sets rest = record { between = B; sets = sets; settles = rest.settles }

pub releases_at_rest : (policy : Policy) (S : State) (file : ℕ) (family : Family) (owner : ℕ) (B T : State) → ReleasesOn S file family owner B
    → ComesToRest policy B file T → Releases policy S file family owner T
releases_at_rest policy S file family owner B T releases rest = record { between = B; releases = releases; settles = rest.settles }

-- a set that nothing held back, or an unlock
pub set_done : (policy : Policy) (S : State) (file owner : ℕ) (span : Span) (mode : Option Mode) (T : State)
    → ¬ IsSetHeldBack (S.files file) owner span mode → Changes policy S file Bytes owner span mode T → SetComesTo policy S file owner span mode Done T
set_done policy S file owner span None T free changes = (refl, changes)
set_done policy S file owner span (Some mode) T free changes = inr (free, (refl, changes))

pub moves_set : (S : State) (file owner : ℕ) (span : Span) (mode : Option Mode) (B : State) → ¬ IsSetHeldBack (S.files file) owner span mode
    → SetsOn S file Bytes owner span mode B → Moves (given_by owner mode) S file B
moves_set S file owner span None B free sets = moves_unset S file Bytes owner span B sets
moves_set S file owner span (Some mode) B free sets = moves_given S file (byte_request no_ticket owner span mode false) B free sets

-- the server's fact after a change of one file that came to rest
pub safe_rested : (policy : Policy) (old new : Table) (given : List ℕ) (B : State) (file : ℕ) → ∥ IsSafe policy (table_state old) ∥₁
    → Moves given (table_state old) file B → ComesToRest policy B file (table_state new) → ∥ IsSafe policy (table_state new) ∥₁
safe_rested policy old new given B file holds moves rest =
    ∥∥₁_map holds (λ safe. safe_at_rest policy given (table_state old) B file (table_state new) safe moves rest (tickets_once new))

-- and after two changes of one file, before that came to rest
pub safe_rested_twice : (policy : Policy) (old new : Table) (given more : List ℕ) (M B : State) (file : ℕ) → ∥ IsSafe policy (table_state old) ∥₁
    → Moves given (table_state old) file M → Moves more M file B → ComesToRest policy B file (table_state new) → ∥ IsSafe policy (table_state new) ∥₁
safe_rested_twice policy old new given more M B file holds first next rest =
    let S = table_state old in
    ∥∥₁_map holds (λ safe. safe_settled policy more M B file (table_state new) (safe_moved policy given S file M first (safe_but policy file S safe)) next
    rest.settles rest.settled (tickets_once new))

-- and after a change, and a wait that joined and closes no cycle
pub safe_rested_joined : (policy : Policy) (old new : Table) (given : List ℕ) (M : State) (file : ℕ) (wait : Pending) (N : State)
    → ∥ IsSafe policy (table_state old) ∥₁ → Moves given (table_state old) file M → Suspends M file wait N → ¬ IsRefused policy M file wait
    → ComesToRest policy N file (table_state new) → ∥ IsSafe policy (table_state new) ∥₁
safe_rested_joined policy old new given M file wait N holds moves suspends passed rest =
    let S = table_state old in let T = table_state new in
    ∥∥₁_map holds (λ safe. safe_with policy file T
    (safe_moved policy (owners_of rest.settles.granted) N file T (moves_settled policy N file T rest.settles)
    (safe_but_joined policy M file wait N suspends (safe_moved policy given S file M moves (safe_but policy file S safe)) passed))
    rest.settled (tickets_once new))

pub safe_after_fetch : (policy : Policy) (old new : Table) (result : Option ℕ) → ∥ IsSafe policy (table_state old) ∥₁
    → FetchComesTo (table_state old) result (table_state new) → ∥ IsSafe policy (table_state new) ∥₁
safe_after_fetch policy old new result holds fetched =
    ∥∥₁_map holds (λ safe. safe_fetched policy (table_state old) result (table_state new) fetched safe (tickets_once new))

-- and after a blocked wait joined that closes no cycle
pub safe_after_join : (policy : Policy) (old new : Table) (file : ℕ) (wait : Pending) → ∥ IsSafe policy (table_state old) ∥₁
    → Suspends (table_state old) file wait (table_state new) → IsWaitBlocked policy ((table_state old).files file) ((table_state old).files file).waits wait
    → ¬ IsRefused policy (table_state old) file wait → ∥ IsSafe policy (table_state new) ∥₁
safe_after_join policy old new file wait holds suspends blocked passed =
    ∥∥₁_map holds (λ safe. safe_joined policy (table_state old) file wait (table_state new) suspends safe blocked passed (tickets_once new))

-- a table that stands for the same stays safe
pub safe_same : (policy : Policy) (old new : Table) → SameState (table_state old) (table_state new) → StaysSafe policy old new
safe_same policy old new same holds =
    ∥∥₁_map holds (λ safe. subst (λ (T : State). IsSafe policy T) (sym (state_from_same (table_state old) (table_state new) same)) safe)
