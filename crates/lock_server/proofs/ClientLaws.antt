-- What the calls for clients and files that are gone come to is determined, and what those tell that ask: for `replicas_agree`.
use Rattle.lock_server.proofs.Common.{ℕ, zero, suc, ◌≡◌, ◌+◌, ◌-◌, ◌≤◌, ◌∙◌, add-suc, add-zero, inl, inr, sym, ap, subst, arith, Bool, List, [], cases_eq, cases_lt, Policy, Through, ForgetsFile, ForgetsOwners, SettlesBelow, Strips, is_within, flock_locks_on, runs_on, told, waits_on, FileState, SameFile, untouched, SameOpenings, IsSettled, Crosses, SameState, State}
use Rattle.lock_server.specs.declared.Counts.{Counts}
use Rattle.lock_server.specs.Clients.{ForgetsSeen, ForgetsSeenOn, SettlesAll}
use Rattle.lock_server.specs.Counting.{AreCounts, IsTold}
use Rattle.lock_server.proofs.ClientLemmas.{settled_again, stripped_one}
use Rattle.lock_server.proofs.CountLemmas.{sum_one}
use Rattle.lock_server.proofs.CrossLemmas.{contains_none}
use Rattle.lock_server.proofs.OutcomeLaws.{crossed_one, state_one, then_settled_one}
use Rattle.lock_server.proofs.StateLemmas.{SameFile-then, file_from_same, state_from_same}

-- what leaves all files leaves one state
strips_one : (S : State) (gone : ℕ → Bool) (T U : State) → Strips S gone T → Strips S gone U → U ≡ T
strips_one S gone T U one other =
    let same : (file : ℕ) → SameFile (T.files file) (U.files file) = λ file. stripped_one (S.files file) gone (T.files file) (U.files file) (one.files file) (other.files file) in
    state_from_same T U (record { files = same; grants = other.grants ∙ sym one.grants; crossed = crossed_one S T U [] one.crossed other.crossed same })

-- whoever is crossed has a detected wait
crosses_still : (S T : State) (given : List ℕ) → Crosses S given T → Crosses T [] T
crosses_still S T given crosses owner = (
  λ crossed. (((crosses owner).0 crossed).0, inl crossed),
  λ h. elim h.1 [ inl crossed ↦ crossed | inr none ↦ absurd (contains_none owner none) ],
)

crosses_same : (S T : State) → SameState S T → Crosses S [] S → Crosses T [] T
crosses_same S T same crosses = subst (λ (U : State). Crosses U [] U) (sym (state_from_same S T same)) crosses

-- what settling files leaves of the files behind, and of who is crossed
record LeavesBehind (bound : ℕ) (S T : State) : Type 0 where
  later : (file : ℕ) → bound ≤ file → SameFile (S.files file) (T.files file)
  crossed : Crosses T [] T

leaves_behind : (policy : Policy) (bound : ℕ) (S T : State) → Crosses S [] S → SettlesBelow policy bound S T → LeavesBehind bound S T
leaves_behind policy zero S T crosses same = record { later = λ file from. same.files file; crossed = crosses_same S T same crosses }
leaves_behind policy (suc file) S T crosses (M, below, settles) =
    let rest = leaves_behind policy file S M crosses below in record {
      later = λ other from.
          SameFile-then (S.files other) (M.files other) (T.files other) (rest.later other (omega (arith, from)))
          (settles.others other (λ is. omega (arith, is, from)));
      crossed = crosses_still M T _ settles.crossed;
    }

-- so as many files more may be settled
settled_further : (policy : Policy) (bound more : ℕ) (S T : State) → Crosses T [] T → ((file : ℕ) → bound ≤ file → IsSettled policy (T.files file))
    → SettlesBelow policy bound S T → SettlesBelow policy (bound + more) S T
settled_further policy bound zero S T crosses settled below = subst (λ (n : ℕ). SettlesBelow policy n S T) (sym (add-zero bound)) below
settled_further policy bound (suc more) S T crosses settled below =
    subst (λ (n : ℕ). SettlesBelow policy n S T) (sym (add-suc bound more))
    (T, settled_further policy bound more S T crosses settled below, settled_again policy T (bound + more) (settled (bound + more) (omega arith)) crosses)

settles_to : (policy : Policy) (S T : State) (bound : ℕ) → Crosses S [] S → (all : SettlesAll policy S T) → all.bound ≤ bound → SettlesBelow policy bound S T
settles_to policy S T bound crosses all within =
    let behind = leaves_behind policy all.bound S T crosses all.settles in
    let ends : all.bound + (bound - all.bound) ≡ bound = omega (arith, within) in
    subst (λ (n : ℕ). SettlesBelow policy n S T) ends
    (settled_further policy all.bound (bound - all.bound) S T behind.crossed
    (λ file past. subst (λ (F : FileState). IsSettled policy F) (sym (file_from_same (S.files file) (T.files file) (behind.later file past))) (all.beyond file past))
    all.settles)

-- and leave one state
below_one : (policy : Policy) (bound : ℕ) (S T U : State) → SettlesBelow policy bound S T → SettlesBelow policy bound S U → U ≡ T
below_one policy zero S T U one other = state_from_same S U other ∙ sym (state_from_same S T one)
below_one policy (suc file) S T U (M, below, settles) (M', below', settles') =
    then_settled_one policy M M' file T U (below_one policy file S M M' below below') settles settles'

settles_all_one : (policy : Policy) (S T U : State) → Crosses S [] S → SettlesAll policy S T → SettlesAll policy S U → U ≡ T
settles_all_one policy S T U crosses one other = elim (cases_lt one.bound other.bound) [
  | inl less ↦ below_one policy other.bound S T U (settles_to policy S T other.bound crosses one (omega (arith, less))) other.settles
  | inr more ↦ below_one policy one.bound S T U one.settles (settles_to policy S U one.bound crosses other more)
]

-- a client that is gone
pub owners_forgotten_one : (policy : Policy) (S : State) (first last : ℕ) (T U : State) → ForgetsOwners policy S first last T
    → ForgetsOwners policy S first last U → U ≡ T
owners_forgotten_one policy S first last T U one other =
    let same = strips_one S (is_within first last) one.between other.between one.strips other.strips in
    settles_all_one policy one.between T U (crosses_still S one.between [] one.strips.crossed) one.settles
    (subst (λ (M : State). SettlesAll policy M U) same other.settles)

-- a file that is gone
pub file_forgotten_one : (S : State) (file : ℕ) (T U : State) → ForgetsFile S file T → ForgetsFile S file U → U ≡ T
file_forgotten_one S file T U one other =
    state_one S T U file [] one.changes.others other.changes.others
    (subst (λ (F : FileState). SameFile F (U.files file)) (sym (file_from_same untouched (T.files file) one.nothing)) other.nothing)
    (other.changes.grants ∙ sym one.changes.grants) one.changes.crossed other.changes.crossed

-- notes
pub forgets_seen_one : (through next next' : Through) (gone : ℕ → Bool) → ForgetsSeen through next gone → ForgetsSeen through next' gone → SameOpenings next next'
forgets_seen_one through next next' gone one other = record { through = λ file owner. other.through file owner ∙ sym (one.through file owner) }

pub forgets_seen_on_one : (through next next' : Through) (file : ℕ) → ForgetsSeenOn through next file → ForgetsSeenOn through next' file → SameOpenings next next'
forgets_seen_on_one through next next' file one other = record {
  through = λ other_file owner. elim (cases_eq other_file file) [
    | inl is ↦ subst (λ (f : ℕ). next' f owner ≡ next f owner) (sym is) (other.here owner ∙ sym (one.here owner))
    | inr differs ↦ other.elsewhere other_file owner differs ∙ sym (one.elsewhere other_file owner differs)
  ];
}

-- counts
told_one : (S : State) (count : FileState → ℕ) (one other : ℕ) → IsTold S count one → IsTold S count other → other ≡ one
told_one S count one other h k = k.is ∙ ap told (sum_one (λ file. count (S.files file)) h.total k.total h.sum k.sum) ∙ sym h.is

pub counts_one : (S : State) (first last : ℕ) (one other : Counts) → AreCounts S first last one → AreCounts S first last other → other ≡ one
counts_one S first last one other h k i = record {
  runs = told_one S (runs_on first last) one.runs other.runs h.runs k.runs i;
  flock_locks = told_one S (flock_locks_on first last) one.flock_locks other.flock_locks h.flock_locks k.flock_locks i;
  waits = told_one S (waits_on first last) one.waits other.waits h.waits k.waits i;
}
