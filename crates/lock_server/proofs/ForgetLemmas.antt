-- An owner that is forgotten, on one file and then on all: for `Table::dismiss` and `LockServer::forget`.
use Rattle.lock_server.proofs.Common.{rules, ℕ, ◌≡◌, ◌≢◌, ◌+◌, ◌<◌, ◌≤◌, ◌∙◌, inl, inr, sym, ap, refl, subst, arith, cond, not, Bool, false, Option, Some, None, List, [], ◌∷◌, ◌++◌, All, Contains, length, common_steps, IsTrue, AllPairs, filter, cases_eq, cases_lt, All-head, All-nil, All-push, All-tail, All-weaker, Contains-append_left, Contains-push, all_pairs_push}
use Rattle.lock_server.proofs.Common.{Bytes, Policy, Pending, ForgetsOn, IsStrangerOn, ReleasesOn, is_other_wait, FileState, SameFile, SameLocks, is_byte_wait, ChangesFile, Crosses, HasDetected, SameState, SettlesFile, State}
use Rattle.std.proofs.Common.{length-append}
use Rattle.std.specs.Prelude.{MatchOption}
use Rattle.std.proofs.lemmas.List.Elements.{filter-append}
use Rattle.lock_server.specs.Calls.{DismissesOn, Forgets, ForgetsIn}
use Rattle.lock_server.proofs.SettleLemmas.{crosses_then, detected_before}
use Rattle.lock_server.proofs.StateLemmas.{file_from_same, SameFile-itself, SameFile-then, state_from_same}

-- some of these waits have left the file, and all locks stay
pub record IsDismissing (S : State) (file : ℕ) (is_one : Pending → Bool) (T : State) : Type 0 where
  pub locks : SameLocks (S.files file) (T.files file)
  pub kept : filter (λ wait. not (is_one wait)) (T.files file).waits ≡ filter (λ wait. not (is_one wait)) (S.files file).waits
  pub changes : ChangesFile S file [] T

-- at first none of them
pub dismissing_none : (S : State) (file : ℕ) (is_one : Pending → Bool) → Crosses S [] S → IsDismissing S file is_one S
dismissing_none S file is_one crossed = grind (arith, common_steps, SameFile-itself)

-- what a filter drops doesn't count
filter_without : (p : Pending → Bool) (before after : List Pending) (wait : Pending) → p wait ≡ false
    → filter p (before ++ wait ∷ after) ≡ filter p (before ++ after)
filter_without p before after wait drops = grind (arith, common_steps, filter-append)

-- a filter that all pass drops nothing
pub filter_all : (p : Pending → Bool) (waits : List Pending) → All (λ wait. IsTrue (p wait)) waits → filter p waits ≡ waits
filter_all p [] all = refl
filter_all p (wait ∷ waits) all =
    let Passes : Pending → Type 0 = λ w. IsTrue (p w) in
    ap (λ (b : Bool). cond b (wait ∷ filter p waits) (filter p waits)) (All-head Passes wait waits all)
    ∙ ap (λ (ws : List Pending). wait ∷ ws) (filter_all p waits (All-tail Passes wait waits all))

-- one of them more
pub dismissing_more : (S : State) (file : ℕ) (is_one : Pending → Bool) (M T : State) → IsDismissing S file is_one M → DismissesOn M file is_one T
    → IsDismissing S file is_one T
dismissing_more S file is_one M T so_far one = grind (arith, common_steps, filter_without, SameFile-then, crosses_then, detected_before)

-- who has a detected wait after a release had it before
released_before : (M : State) (file owner : ℕ) (T : State) → ReleasesOn M file Bytes owner T → (other : ℕ) → HasDetected T other → HasDetected M other
released_before M file owner T releases other has = search (rules, cases_eq)

-- none of an owner's waits for byte locks is left, and then its byte locks go
released_last : (S : State) (file owner : ℕ) (M T : State) → IsDismissing S file (is_byte_wait owner) M
    → All (λ wait. IsTrue (is_other_wait owner wait)) (M.files file).waits → ReleasesOn M file Bytes owner T → ForgetsOn S file owner T
released_last S file owner M T so_far all releases = grind (arith, common_steps, filter_all, SameFile-then, crosses_then, released_before)

pub all_dismissed : (S : State) (file owner : ℕ) (M N T : State) → IsDismissing S file (is_byte_wait owner) M
    → All (λ wait. IsTrue (is_other_wait owner wait)) (M.files file).waits → SameState M N → ReleasesOn N file Bytes owner T → ForgetsOn S file owner T
all_dismissed S file owner M N T so_far all same releases =
    released_last S file owner M T so_far all (subst (λ (U : State). ReleasesOn U file Bytes owner T) (state_from_same M N same) releases)

-- one wait that is dismissed is one wait less
pub fewer_after : (M : State) (file : ℕ) (is_one : Pending → Bool) (T : State) → DismissesOn M file is_one T
    → length (T.files file).waits < length (M.files file).waits
fewer_after M file is_one T one = grind (arith, common_steps, length-append)

-- the least file that is not looked at, where those up to this one are
abbrev pub next_of : Option ℕ → ℕ
next_of None = 0
next_of (Some file) = file + 1

pub above_from_next : (above : Option ℕ) (file : ℕ) → next_of above ≤ file → MatchOption above (Unit {0}) (λ least. least < file)
above_from_next None file from = tt
above_from_next (Some least) file from = omega arith

pub next_from_above : (above : Option ℕ) (file : ℕ) → MatchOption above (Unit {0}) (λ least. least < file) → next_of above ≤ file
next_from_above None file above = omega arith
next_from_above (Some least) file above = omega arith

-- the owner is forgotten on all files below this one, and from it on nothing has changed
pub record IsForgetting (policy : Policy) (S : State) (owner next : ℕ) (T : State) : Type 0 where
  pub done : List ℕ
  pub rising : AllPairs (λ one other. one < other) done
  pub below : All (λ file. file < next) done
  pub strangers : (file : ℕ) → file < next → (¬ Contains done file) → IsStrangerOn (S.files file) owner
  pub later : (file : ℕ) → next ≤ file → SameFile (S.files file) (T.files file)
  pub forgets : ForgetsIn policy done S owner T

-- a stranger is one where the file stays
stranger_still : (F G : FileState) (owner : ℕ) → SameFile F G → IsStrangerOn G owner → IsStrangerOn F owner
stranger_still F G owner same stranger = subst (λ (H : FileState). IsStrangerOn H owner) (file_from_same F G same) stranger

-- at first no file is looked at
pub forgetting_none : (policy : Policy) (S : State) (owner : ℕ) → IsForgetting policy S owner 0 S
forgetting_none policy S owner = grind (arith, common_steps, All-nil, SameFile-itself)

forgets_more : (policy : Policy) (files : List ℕ) (S : State) (owner file : ℕ) (M between after T : State) → ForgetsIn policy files S owner M
    → ForgetsOn M file owner between → SettlesFile policy between file after
    → SameState after T → ForgetsIn policy (files ++ file ∷ []) S owner T
forgets_more policy [] S owner file M between after T same forgets settles still =
    (between, after, subst (λ (U : State). ForgetsOn U file owner between) (state_from_same S M same) forgets, settles, still)
forgets_more policy (first ∷ files) S owner file M between after T (b, n, here, settled, rest) forgets settles still =
    (b, n, here, settled, forgets_more policy files n owner file M between after T rest forgets settles still)

-- the next file on which it is no stranger
pub forgetting_more : (policy : Policy) (S : State) (owner next : ℕ) (M : State) (file : ℕ) (between after T : State)
    → IsForgetting policy S owner next M → next ≤ file
    → ((other : ℕ) → next ≤ other → other < file → IsStrangerOn (M.files other) owner) → ForgetsOn M file owner between
    → SettlesFile policy between file after → SameState after T
    → IsForgetting policy S owner (file + 1) T
forgetting_more policy S owner next M file between after T so_far from least forgets settles still = record {
  done = so_far.done ++ file ∷ [];
  rising = all_pairs_push (λ one other. one < other) so_far.done file so_far.rising (λ k d within. let earlier = so_far.below k d within in omega arith);
  below = All-push (λ any. any < file + 1) so_far.done file (All-weaker (λ any. any < next) (λ any. any < file + 1) (λ any earlier. omega arith) so_far.done so_far.below) (omega arith);
  strangers = λ any before apart. elim (cases_lt any next) [
    | inl earlier ↦ so_far.strangers any earlier (λ among. apart (Contains-append_left so_far.done (file ∷ []) any among))
    | inr past ↦ elim (cases_eq any file) [
      | inl here ↦ absurd (apart (subst (λ (n : ℕ). Contains (so_far.done ++ file ∷ []) n) (sym here) (Contains-push so_far.done file)))
      | inr differs ↦ stranger_still (S.files any) (M.files any) owner (so_far.later any past) (least any past (omega arith))
    ]
  ];
  later = λ any past.
      (let differs : any ≢ file = omega arith in
      SameFile-then (S.files any) (M.files any) (T.files any) (so_far.later any (omega arith))
      (SameFile-then (M.files any) (between.files any) (T.files any) (forgets.changes.others any differs)
      (SameFile-then (between.files any) (after.files any) (T.files any) (settles.others any differs) (still.files any))));
  forgets = forgets_more policy so_far.done S owner file M between after T so_far.forgets forgets settles still;
}

-- from here on it is one on all files
pub all_forgotten : (policy : Policy) (S : State) (owner next : ℕ) (T : State) → IsForgetting policy S owner next T
    → ((file : ℕ) → next ≤ file → IsStrangerOn (T.files file) owner) → Forgets policy S owner T
all_forgotten policy S owner next T so_far none = record {
  files = so_far.done;
  rising = so_far.rising;
  others = λ file apart. elim (cases_lt file next) [
    | inl earlier ↦ so_far.strangers file earlier apart
    | inr past ↦ stranger_still (S.files file) (T.files file) owner (so_far.later file past) (none file past)
  ];
  forgets = so_far.forgets;
}
