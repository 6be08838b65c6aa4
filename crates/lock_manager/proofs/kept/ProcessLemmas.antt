-- Where the processes stand after one of them has changed: for `Machine::end`, `Machine::interrupt`, `Machine::join` and others.
use Rattle.lock_manager.proofs.Common.{common_steps, ℕ, ◌≡◌, ◌≢◌, ◌<◌, ◌≤◌, ◌+◌, List, length, Bool, true, arith, slice_set, ◌==◌, ◌||◌, if◌then◌else◌, cases_lt, eqb_tells, ProcState, Unborn, Live, Waiting, state_numbered, StandsSo}
use Rattle.std.proofs.lemmas.Option.{slice_get_past}
use Rattle.lock_manager.proofs.kept.BookLemmas.{slice_get-set_same, slice_get-set_other}

-- one process' state is replaced, and every other one stays
pub state_numbered-set : (states : List ProcState) (p place : ℕ) (state : ProcState) → p ≡ place + 1 → place < length states
    → (q : ℕ) → state_numbered (slice_set states place state) q ≡ (if q == p then state else state_numbered states q)
state_numbered-set states p place state h h2 q = grind (arith, common_steps, eqb_tells, slice_get-set_same, slice_get-set_other)

-- where one process more was ever alive, and that one lives from now on, whoever lives was ever alive
pub alive_with : (states states' : List ProcState) (was is : ℕ → Bool) (child : ℕ) → StandsSo states states' child Live
    → ((q : ℕ) → is q ≡ ((q == child) || was q)) → ((q : ℕ) → state_numbered states q ≡ Live → was q ≡ true)
    → (q : ℕ) → state_numbered states' q ≡ Live → is q ≡ true
alive_with states states' was is child set more before q live = grind (arith, common_steps)

-- a process that was born has a place
pub place_of_born : (states : List ProcState) (p : ℕ) → state_numbered states p ≢ Unborn → (1 ≤ p) × (p ≤ length states)
place_of_born states p h = grind (arith, common_steps, cases_lt, slice_get_past)

-- so has one that lives
pub place_of_live : (states : List ProcState) (p : ℕ) → state_numbered states p ≡ Live → (1 ≤ p) × (p ≤ length states)
place_of_live states p live = place_of_born states p (λ unborn. cc)

-- and one that waits
pub place_of_waiting : (states : List ProcState) (p : ℕ) → state_numbered states p ≡ Waiting → (1 ≤ p) × (p ≤ length states)
place_of_waiting states p waits = place_of_born states p (λ unborn. cc)

-- whoever waits waits on while the state of another process changes
pub waiting_still : (states states' : List ProcState) (p : ℕ) (state : ProcState) → StandsSo states states' p state → (q : ℕ) → q ≢ p
    → state_numbered states q ≡ Waiting → state_numbered states' q ≡ Waiting
waiting_still states states' p state set q other waits = grind (arith, common_steps, eqb_tells)

-- where one process' state becomes another than Waiting, whoever waits is another one, and waited before
pub waited_before : (states states' : List ProcState) (p : ℕ) (state : ProcState) → StandsSo states states' p state → state ≢ Waiting
    → (q : ℕ) → state_numbered states' q ≡ Waiting → (q ≢ p) × (state_numbered states q ≡ Waiting)
waited_before states states' p state set other q waits = grind (arith, common_steps, eqb_tells)

-- the process that was changed stands as it was told to
pub stands_set : (states states' : List ProcState) (p : ℕ) (state : ProcState) → StandsSo states states' p state → state_numbered states' p ≡ state
stands_set states states' p state set = grind (arith, common_steps, eqb_tells)

-- who lives lives on where another one begins to
pub live_still : (states states' : List ProcState) (p : ℕ) → StandsSo states states' p Live → (q : ℕ) → state_numbered states q ≡ Live
    → state_numbered states' q ≡ Live
live_still states states' p set q live = grind (arith, common_steps)

-- who lives where another one doesn't lived before
pub lived_before : (states states' : List ProcState) (p : ℕ) (state : ProcState) → StandsSo states states' p state → state ≢ Live
    → (q : ℕ) → state_numbered states' q ≡ Live → state_numbered states q ≡ Live
lived_before states states' p state set other q live = grind (arith, common_steps)

-- whoever was ever alive was so after one process more
pub alive_still : (was is : ℕ → Bool) (child : ℕ) → ((q : ℕ) → is q ≡ ((q == child) || was q)) → (q : ℕ) → was q ≡ true → is q ≡ true
alive_still was is child more q alive = grind (arith, common_steps)
