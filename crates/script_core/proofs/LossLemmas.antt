-- Which locks go with an event: for `write_explained`, clause `ok`.
use Rattle.script_core.proofs.Common.{cases_lt, ℕ, zero, suc, ◌≡◌, ◌+◌, ◌<◌, ◌&&◌, ◌||◌, Bool, true, false, inl, inr, Option, Some, None, Result, Ok, Err, List, [], ◌++◌, map, MatchBool, refl, sym, ap, subst, ◌∙◌, arith, add-one, append-nil}
use Rattle.script_core.proofs.Common.{Mode, Span, Modes, AreRuns, Look, Held, Owner, Process, Description, mode_in, flock_mode_in, State, Manager, StandsFor, Closing, is_such, any_open, is_alive, keeps, stays_open, byte_line}
use Rattle.std.proofs.Common.{IfOk}
use Rattle.owner_runs.specs.declared.owner_runs.OwnerRuns.{OwnerRuns}
use Rattle.owner_runs.specs.Lists.{modes_of}
use Rattle.lock_book.specs.OwnerLists.{modes_in_list}
use Rattle.script_core.specs.Losses.{AreByteLocksOf, AreLocksOf, AreReleasedBy}

or_true : (b : Bool) → (b || true) ≡ true
or_true true = refl
or_true false = refl

-- one descriptor after another
pub none_open : (look : ℕ → Option Look) (test : ℕ → Look → Bool) → any_open look test 0 ≡ false
unfolding any_open
none_open look test = refl

pub next_open : (look : ℕ → Option Look) (test : ℕ → Look → Bool) (n : ℕ) → any_open look test n ≡ false → is_such (test n) (look n) ≡ false
    → any_open look test (n + 1) ≡ false
unfolding any_open
next_open look test n none is = rw (add-one n, none) is

pub found_open : (look : ℕ → Option Look) (test : ℕ → Look → Bool) (n m : ℕ) → n < m → is_such (test n) (look n) ≡ true → any_open look test m ≡ true
unfolding any_open
found_open look test n zero within is = absurd (omega (arith, within))
found_open look test n (suc m) within is = elim (cases_lt n m) [
  | inl earlier ↦ rw (found_open look test n m earlier is) refl
  | inr last ↦
      let same : n ≡ m = omega (arith, within, last) in
      ap (λ (b : Bool). any_open look test m || b) (subst (λ (k : ℕ). is_such (test k) (look k) ≡ true) same is) ∙ or_true (any_open look test m)
]

-- one process after another
abbrev pub keeps_it : ℕ → State → Closing → ℕ → ℕ → Bool
keeps_it limit S closed d q = is_alive (S.states q) && keeps limit S.descriptors closed q d

pub nobody_yet : (limit : ℕ) (S : State) (closed : Closing) (d : ℕ) → stays_open limit S closed d 0 ≡ false
unfolding stays_open
nobody_yet limit S closed d = refl

pub nobody_more : (limit : ℕ) (S : State) (closed : Closing) (d index : ℕ) → stays_open limit S closed d index ≡ false
    → keeps_it limit S closed d (index + 1) ≡ false → stays_open limit S closed d (index + 1) ≡ false
unfolding stays_open
nobody_more limit S closed d index none is =
    ap (stays_open limit S closed d) (add-one index)
    ∙ ap (λ (b : Bool). b || keeps_it limit S closed d (suc index)) none ∙ ap (keeps_it limit S closed d) (sym (add-one index)) ∙ is

pub somebody : (limit : ℕ) (S : State) (closed : Closing) (d index n : ℕ) → index < n → keeps_it limit S closed d (index + 1) ≡ true
    → stays_open limit S closed d n ≡ true
unfolding stays_open
somebody limit S closed d index zero within is = absurd (omega (arith, within))
somebody limit S closed d index (suc n) within is = elim (cases_lt index n) [
  | inl earlier ↦ ap (λ (b : Bool). b || keeps_it limit S closed d (suc n)) (somebody limit S closed d index n earlier is)
  | inr last ↦
      let same : index + 1 ≡ suc n = omega (arith, within, last) in
      ap (λ (b : Bool). stays_open limit S closed d n || b) (ap (keeps_it limit S closed d) (sym same) ∙ is) ∙ or_true (stays_open limit S closed d n)
]

-- the runs of an owner's list are its byte locks
pub bytes_listed : (S : State) (file : ℕ) (owner : Owner) (list : OwnerRuns) (runs : List (Mode × Span)) (locks : List Held)
    → ((byte : ℕ) → modes_of list byte ≡ mode_in S.changes file owner byte) → AreRuns (modes_of list) runs → locks ≡ map (byte_line file owner) runs
    → AreByteLocksOf S file owner locks
bytes_listed S file owner list runs locks same are is = (runs, subst (λ (m : Modes). AreRuns m runs) (λ i byte. same byte i) are, is)

-- and without a list there are none
pub bytes_unlisted : (S : State) (file : ℕ) (owner : Owner) → ((byte : ℕ) → None ≡ mode_in S.changes file owner byte) → AreByteLocksOf S file owner []
bytes_unlisted S file owner same = (
  [],
  record {
    rising = λ i j d before within. absurd (omega (arith, before, within));
    each = λ k d within. absurd (omega (arith, within));
    every = λ byte mode has. absurd (let is = same byte ∙ has in cc);
  },
  refl,
)

-- a description without locks
pub no_locks : (S : State) (file d : ℕ) → AreByteLocksOf S file (Description d) [] → flock_mode_in S.flock_changes file d ≡ None → AreLocksOf S file d []
no_locks S file d bytes none = ([], bytes, rw none refl)

-- what goes with a descriptor: only the process' own, where the description has no lock or stays open, and else both
pub own_of_lockless : (S : State) (p : ℕ) (look : Look) (stays : Bool) (own : List Held) → AreByteLocksOf S look.file (Process p) own
    → AreLocksOf S look.file look.desc [] → AreReleasedBy S p look stays own
own_of_lockless S p look true own are others = (own, [], are, refl, sym (append-nil own))
own_of_lockless S p look false own are others = (own, [], are, others, sym (append-nil own))

pub own_of_open : (S : State) (p : ℕ) (look : Look) (stays : Bool) (own : List Held) → AreByteLocksOf S look.file (Process p) own → stays ≡ true
    → AreReleasedBy S p look stays own
own_of_open S p look true own are open_still = (own, [], are, refl, sym (append-nil own))
own_of_open S p look false own are open_still = absurd (cc)

pub own_and_others : (S : State) (p : ℕ) (look : Look) (stays : Bool) (own others locks : List Held) → AreByteLocksOf S look.file (Process p) own
    → AreLocksOf S look.file look.desc others → stays ≡ false → locks ≡ own ++ others → AreReleasedBy S p look stays locks
own_and_others S p look stays own others locks are are_others last is =
    (own, others, are, subst (λ (b : Bool). MatchBool b (others ≡ []) (AreLocksOf S look.file look.desc others)) (sym last) are_others, is)

-- a description that has no byte lock and no flock lock
pub unlisted : (S : State) (file d : ℕ) → ((byte : ℕ) → None ≡ mode_in S.changes file (Description d) byte) → None ≡ flock_mode_in S.flock_changes file d
    → AreLocksOf S file d []
unlisted S file d same no_flock = no_locks S file d (bytes_unlisted S file (Description d) same) (sym no_flock)

-- what is listed of an owner's runs, and of an owner without a list
pub listed_result : {A E : Type 0} (items : A → List Held) (result : Result A E) (manager : Manager) (file : ℕ) (owner : Owner) (found : Option OwnerRuns)
    (list : OwnerRuns) (runs : List (Mode × Span))
    → ((S : State) → StandsFor manager S → (byte : ℕ) → modes_in_list found byte ≡ mode_in S.changes file owner byte) → found ≡ Some list
    → AreRuns (modes_of list) runs → IfOk result (λ lines. items lines ≡ map (byte_line file owner) runs)
    → IfOk result (λ locks. (S : State) → StandsFor manager S → AreByteLocksOf S file owner (items locks))
listed_result items (Ok locks) manager file owner found list runs same some are is = λ S h.
    bytes_listed S file owner list runs (items locks)
    (subst (λ (f : Option OwnerRuns). (byte : ℕ) → modes_in_list f byte ≡ mode_in S.changes file owner byte) some (same S h)) are is
listed_result items (Err error) manager file owner found list runs same some are is = tt

pub unlisted_result : (manager : Manager) (file : ℕ) (owner : Owner) (found : Option OwnerRuns) (locks : List Held)
    → ((S : State) → StandsFor manager S → (byte : ℕ) → modes_in_list found byte ≡ mode_in S.changes file owner byte) → found ≡ None → locks ≡ []
    → (S : State) → StandsFor manager S → AreByteLocksOf S file owner locks
unlisted_result manager file owner found locks same none empty S h =
    subst (AreByteLocksOf S file owner) (sym empty)
    (bytes_unlisted S file owner (subst (λ (f : Option OwnerRuns). (byte : ℕ) → modes_in_list f byte ≡ mode_in S.changes file owner byte) none (same S h)))
