-- What holds between any two calls holds after each: for the server's fact `safe`.
use Rattle.lock_server.proofs.Common.{rules, ℕ, ◌≡◌, ◌≢◌, ◌∙◌, ◌⊎◌, inl, inr, sym, subst, arith, Option, Some, None, List, [], ◌∷◌, ◌++◌, Any, common_steps, cases_eq, Contains-append_left, Contains-append_right}
use Rattle.lock_server.proofs.Common.{Span, Family, Policy, Pending, owners_of, FileState, SameFile, GetsLock, IsHeldBack, IsSettled, Grants, Settles, State, SameState, IsDetectedOf, HasDetected, Crosses, SettlesFile, opening, WaitsFor, WaitsForOn, WaitsUncrossed, IsFreeOfCycles, IsCompatible, IsSafe, AreTicketsOnce, SetsOn, ReleasesOn, FetchComesTo, ForgetsOn}
use Rattle.std.specs.Prelude.{Contains}
use Rattle.lock_server.specs.Calls.{LeavesOn}
use Rattle.lock_server.proofs.ListLemmas.{Any-nil, no_place}
use Rattle.lock_server.proofs.LeaveLemmas.{Any-at}
use Rattle.lock_server.proofs.ChainLemmas.{chain_weaker, first_step, free_on}
use Rattle.lock_server.proofs.StateLemmas.{file_from_same, state_from_same}
use Rattle.lock_server.proofs.StepLemmas.{LocksFrom, IsWithin, step_from, within_itself, within_left, within_then, filtered_within}
use Rattle.lock_server.proofs.CompatibleLemmas.{free_from_open, compatible_gets, compatible_fewer, from_fewer, from_set, fewer_unset, fewer_unlocked, FewerLocks}

-- a change of one file that gives locks to these owners alone, and makes no conflict
pub record MovesFile (given : List ℕ) (F G : FileState) : Type 0 where
  pub locks : LocksFrom (Contains given) F G
  pub waits : IsWithin G.waits F.waits
  pub compatible : IsCompatible F → IsCompatible G

-- a change of the file that leaves all others
pub record Moves (given : List ℕ) (S : State) (file : ℕ) (T : State) : Type 0 where
  pub here : MovesFile given (S.files file) (T.files file)
  pub others : (other : ℕ) → other ≢ file → SameFile (S.files other) (T.files other)
  pub crossed : Crosses S given T

-- what holds between two calls, but that the waits on the file are blocked, and what tickets name
pub record IsSafeBut (policy : Policy) (file : ℕ) (S : State) : Type 0 where
  pub compatible : (other : ℕ) → IsCompatible (S.files other)
  pub settled : (other : ℕ) → other ≢ file → IsSettled policy (S.files other)
  pub free_of_cycles : IsFreeOfCycles policy S

pub safe_but : (policy : Policy) (file : ℕ) (S : State) → IsSafe policy S → IsSafeBut policy file S
safe_but policy file S safe = record { compatible = safe.compatible; settled = λ other differs. safe.settled other; free_of_cycles = safe.free_of_cycles }

pub safe_with : (policy : Policy) (file : ℕ) (S : State) → IsSafeBut policy file S → IsSettled policy (S.files file) → AreTicketsOnce S → IsSafe policy S
safe_with policy file S safe settled once = grind (arith, common_steps, cases_eq)

-- the same state is as safe
pub safe_same : (policy : Policy) (S T : State) → SameState S T → IsSafe policy S → IsSafe policy T
safe_same policy S T same safe = subst (λ (U : State). IsSafe policy U) (sym (state_from_same S T same)) safe

-- what holds of each other file and of this one holds of all
at_each : (P : FileState → FileState → Type 0) (S : State) (file : ℕ) (T : State) → ((F : FileState) → P F F)
    → ((other : ℕ) → other ≢ file → SameFile (S.files other) (T.files other)) → P (S.files file) (T.files file) → (other : ℕ)
    → P (S.files other) (T.files other)
at_each P S file T itself others here other = elim (cases_eq other file) [
  | inl is ↦ subst (λ (f : ℕ). P (S.files f) (T.files f)) (sym is) here
  | inr differs ↦ subst (λ (G : FileState). P (S.files other) G) (sym (file_from_same (S.files other) (T.files other) (others other differs))) (itself (S.files other))
]

locks_itself : (Given : ℕ → Type 0) (F : FileState) → LocksFrom Given F F
locks_itself Given F = record { bytes = λ owner byte mode is. inl is; flocks = λ owner mode is. inl is }

-- who waits for another has a detected wait
pub waiter_detected : (policy : Policy) (T : State) (one other : ℕ) → WaitsFor policy T one other → HasDetected T one
waiter_detected policy T one other step = record {
  file = step.file;
  among = subst (λ (waits : List Pending). Any (IsDetectedOf one) waits) (sym step.on_file.place)
      (Any-at (IsDetectedOf one) step.on_file.before step.on_file.after step.on_file.wait (step.on_file.detected, step.on_file.of_one));
}

-- changes of files that give locks to these owners alone: a step was there before, or leads to one of these
steps_from : (policy : Policy) (given : List ℕ) (S T : State) → ((file : ℕ) → MovesFile given (S.files file) (T.files file)) → (one other : ℕ)
    → WaitsFor policy T one other → WaitsFor policy S one other ⊎ Contains given other
steps_from policy given S T moves one other step =
    let moved = moves step.file in
    elim (step_from (Contains given) (S.files step.file) (T.files step.file) moved.locks policy moved.waits one other step.on_file) [
      | inl was ↦ inl (record { file = step.file; on_file = was })
      | inr is ↦ inr is
    ]

-- no cycle of uncrossed owners is closed: an owner that is given a lock is crossed, or has no step
pub all_move_free : (policy : Policy) (given : List ℕ) (S T : State) → ((file : ℕ) → MovesFile given (S.files file) (T.files file)) → Crosses S given T
    → IsFreeOfCycles policy S → IsFreeOfCycles policy T
all_move_free policy given S T moves crosses free owner cycle =
    free_on (WaitsUncrossed policy S) (WaitsUncrossed policy T)
    (λ p q r step next. elim (steps_from policy given S T moves p q step.0) [
      | inl was ↦ (was, λ crossed. step.1 ((crosses p).1 (waiter_detected policy T p q step.0, inl crossed)))
      | inr is ↦ absurd (next.1 ((crosses q).1 (waiter_detected policy T q r next.0, inr is)))
    ])
    free owner cycle

stays_move : (given : List ℕ) (F : FileState) → MovesFile given F F
stays_move given F = record { locks = locks_itself (Contains given) F; waits = within_itself F.waits; compatible = λ h. h }

-- the same of one file
pub moves_free : (policy : Policy) (given : List ℕ) (S : State) (file : ℕ) (T : State) → Moves given S file T → IsFreeOfCycles policy S → IsFreeOfCycles policy T
moves_free policy given S file T moves =
    all_move_free policy given S T (at_each (MovesFile given) S file T (stays_move given) moves.others moves.here) moves.crossed

-- a change of one file keeps what holds but for its waits
pub safe_moved : (policy : Policy) (given : List ℕ) (S : State) (file : ℕ) (T : State) → Moves given S file T → IsSafeBut policy file S
    → IsSafeBut policy file T
safe_moved policy given S file T moves safe = record {
  compatible = λ other. at_each (λ F G. IsCompatible F → IsCompatible G) S file T (λ F h. h) moves.others moves.here.compatible other (safe.compatible other);
  settled = λ other differs. subst (λ (G : FileState). IsSettled policy G) (sym (file_from_same (S.files other) (T.files other) (moves.others other differs))) (safe.settled other differs);
  free_of_cycles = moves_free policy given S file T moves safe.free_of_cycles;
}

only : (owner other : ℕ) → other ≡ owner → Contains (owner ∷ []) other
only owner other same = (0, omega arith, sym same)

more_given : (one other : ℕ → Type 0) → ((owner : ℕ) → one owner → other owner) → (F G : FileState) → LocksFrom one F G → LocksFrom other F G
more_given one other more F G locks = grind (arith, common_steps)

pub same_waits : (F G : FileState) → G.waits ≡ F.waits → IsWithin G.waits F.waits
same_waits F G same = subst (λ (waits : List Pending). IsWithin waits F.waits) (sym same) (within_itself F.waits)

pub fewer_move : (given : List ℕ) (F G : FileState) → FewerLocks F G → IsWithin G.waits F.waits → MovesFile given F G
fewer_move given F G fewer waits = record { locks = from_fewer (Contains given) F G fewer; waits = waits; compatible = compatible_fewer F G fewer }

-- the moves are: a set that nothing held back, an unlock, a release, a wait that leaves, an owner that is forgotten, and settling
gets_move : (F : FileState) (wait : Pending) (G : FileState) → ¬ IsHeldBack F wait → GetsLock F wait G → IsWithin G.waits F.waits
    → MovesFile (wait.owner ∷ []) F G
gets_move F wait G free gets waits = grind (arith, common_steps, more_given, only, from_set, compatible_gets)

pub moves_given : (S : State) (file : ℕ) (wait : Pending) (T : State) → ¬ IsHeldBack (S.files file) wait
    → SetsOn S file wait.family wait.owner wait.span (Some wait.mode) T → Moves (wait.owner ∷ []) S file T
moves_given S file wait T free sets = search (rules, gets_move, same_waits)

pub moves_unset : (S : State) (file : ℕ) (family : Family) (owner : ℕ) (span : Span) (T : State) → SetsOn S file family owner span None T → Moves [] S file T
moves_unset S file family owner span T sets = grind (arith, common_steps, fewer_move, fewer_unset, same_waits)

pub moves_released : (S : State) (file : ℕ) (family : Family) (owner : ℕ) (T : State) → ReleasesOn S file family owner T → Moves [] S file T
moves_released S file family owner T releases = grind (arith, common_steps, fewer_move, fewer_unlocked, same_waits)

left_within : (F G : FileState) (before after : List Pending) (wait : Pending) → F.waits ≡ before ++ wait ∷ after → G.waits ≡ before ++ after
    → IsWithin G.waits F.waits
left_within F G before after wait place left = grind (arith, common_steps, within_left)

pub moves_left : (S : State) (file ticket : ℕ) (T : State) → LeavesOn S file ticket T → Moves [] S file T
moves_left S file ticket T leaves = grind (arith, common_steps, fewer_move, left_within)

pub moves_forgotten : (S : State) (file owner : ℕ) (T : State) → ForgetsOn S file owner T → Moves [] S file T
moves_forgotten S file owner T forgets = grind (arith, common_steps, fewer_move, fewer_unlocked, filtered_within)

-- one move behind another
then_moves : (one more : List ℕ) (F G H : FileState) → MovesFile one F G → MovesFile more G H → MovesFile (one ++ more) F H
then_moves one more F G H first next = search (rules, Contains-append_left, Contains-append_right, within_then)

granted_move : (policy : Policy) (F : FileState) (wait : Pending) (G : FileState) → Grants policy F wait G → MovesFile (wait.owner ∷ []) F G
granted_move policy F wait G grants = search (rules, gets_move, free_from_open, left_within)

settled_move : (policy : Policy) (F : FileState) (granted : List Pending) (G : FileState) → Settles policy F granted G → MovesFile (owners_of granted) F G
settled_move policy F [] G settles =
    subst (λ (H : FileState). MovesFile [] F H) (sym (file_from_same F G settles.1))
    (record { locks = locks_itself (Contains []) F; waits = within_itself F.waits; compatible = λ h. h })
settled_move policy F (wait ∷ granted) G (next, grants, settles) =
    then_moves (wait.owner ∷ []) (owners_of granted) F next G (granted_move policy F wait next grants) (settled_move policy next granted G settles)

pub moves_settled : (policy : Policy) (S : State) (file : ℕ) (T : State) (settles : SettlesFile policy S file T) → Moves (owners_of settles.granted) S file T
moves_settled policy S file T settles = grind (arith, common_steps, settled_move)

-- a change of one file that is then settled and swept
pub safe_settled : (policy : Policy) (given : List ℕ) (S B : State) (file : ℕ) (T : State) → IsSafeBut policy file S → Moves given S file B
    → SettlesFile policy B file T → IsSettled policy (T.files file) → AreTicketsOnce T → IsSafe policy T
safe_settled policy given S B file T safe moves settles settled once =
    safe_with policy file T (safe_moved policy (owners_of settles.granted) B file T (moves_settled policy B file T settles) (safe_moved policy given S file B moves safe)) settled once

no_step : (policy : Policy) (one other : ℕ) → WaitsUncrossed policy opening one other → ⊥
unfolding opening
no_step policy one other step = no_place step.0.on_file.before step.0.on_file.wait step.0.on_file.after step.0.on_file.place

-- a server without locks and waits is safe
pub safe_opening : (policy : Policy) (T : State) → SameState opening T → IsSafe policy T
unfolding opening
safe_opening policy T same =
    safe_same policy opening T same (record {
      compatible = λ file. record {
        bytes = λ byte one other m k distinct m_is k_is. absurd (let h : None ≡ Some m = m_is in cc);
        flocks = λ one other m k distinct m_is k_is. absurd (let h : None ≡ Some m = m_is in cc);
      };
      settled = λ file. tt;
      free_of_cycles = λ owner cycle. (let step = first_step (WaitsUncrossed policy opening) owner cycle.0 owner cycle.1 in no_step policy owner step.0 step.1);
      once = record {
        on_one_file = λ file other ticket one more. absurd (Any-nil _ one);
        on_a_file = λ file i j d before within. absurd (omega (arith, within));
        granted_once = λ i j d before within. absurd (omega (arith, within));
        waits_or_granted = λ file ticket one more. Any-nil _ one;
      };
    })

-- a grant that is fetched leaves all else
pub safe_fetched : (policy : Policy) (S : State) (result : Option ℕ) (T : State) → FetchComesTo S result T → IsSafe policy S → AreTicketsOnce T
    → IsSafe policy T
safe_fetched policy S None T fetched safe once = safe_same policy S T fetched.1 safe
safe_fetched policy S (Some ticket) T fetched safe once = record {
  compatible = λ file. subst (λ (F : FileState). IsCompatible F) (sym (stays file)) (safe.compatible file);
  settled = λ file. subst (λ (F : FileState). IsSettled policy F) (sym (stays file)) (safe.settled file);
  free_of_cycles = λ owner cycle. safe.free_of_cycles owner (cycle.0, chain_weaker (WaitsUncrossed policy T) (WaitsUncrossed policy S) before owner cycle.0 owner cycle.1);
  once = once;
}
  where
    stays : (file : ℕ) → T.files file ≡ S.files file
    stays file = file_from_same (S.files file) (T.files file) (fetched.1 file)

    before : (one other : ℕ) → WaitsUncrossed policy T one other → WaitsUncrossed policy S one other
    before one other step = (
      record { file = step.0.file; on_file = subst (λ (F : FileState). WaitsForOn policy F one other) (stays step.0.file) step.0.on_file },
      λ crossed. step.1 (fetched.2 one ∙ crossed),
    )
