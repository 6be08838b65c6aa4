-- Clients and files that are gone, on one file and then on all: for `Table::strip`, `Table::strip_all`, `Table::settle_all`,
-- `Table::forget_owners` and `Table::forget_file`.
use Rattle.lock_server.proofs.Common.{rules, ℕ, zero, suc, ◌≡◌, ◌≢◌, ◌+◌, ◌-◌, ◌<◌, ◌≤◌, ◌∙◌, add-zero, add-suc, inl, inr, sym, ap, refl, subst, arith, cond, true, false, not, Bool, Option, Some, None, List, [], ◌∷◌, All, Any, append-nil, if◌then◌else◌, IsTrue, filter, cases_eq, cases_lt, All-head}
use Rattle.lock_server.proofs.Common.{Mode, Policy, Pending, LockFile, Files, Tickets, Waiters, ForgetsFile, SettlesBelow, Strips, StripsFile, FileState, SameFile, untouched, file_state, state_at, PutsEntry, entry_in, IsIndexed, is_leaving, IsSettled, ChangesFile, Crosses, HasDetected, IsDetectedOf, SameState, SettlesFile, State}
use Rattle.std.proofs.Common.{add-one}
use Rattle.lock_server.specs.declared.leaving.Leaving.TheVariants.{All as all_leave}
use Rattle.lock_server.specs.Clients.{SettlesAll, StripsLocks, StripsOn}
use Rattle.lock_server.specs.Leaving.{is_staying}
use Rattle.lock_server.specs.TableView.{AllLeave, StripsLocksOn}
use Rattle.lock_server.proofs.CrossLemmas.{CrossesBy-same}
use Rattle.lock_server.proofs.EntryMoves.{SameWaiters-itself, kept_indexed}
use Rattle.lock_server.proofs.ForgetLemmas.{IsDismissing, filter_all}
use Rattle.lock_server.proofs.ListLemmas.{Any-cons, Any-here, Any-nil, Any-there}
use Rattle.lock_server.proofs.SettleLemmas.{crosses_then}
use Rattle.lock_server.proofs.StateLemmas.{SameFile-itself, SameFile-then, file_from_same, state_from_same}
use Rattle.lock_server.proofs.TableMoves.{at_entries, changes_by, state_by, waiters_known, waits_in}

none_stays : (test : Bool) → let none : Option Mode = None in none ≡ (if test then None else None)
none_stays true = refl
none_stays false = refl

-- of a file without an entry no lock goes
untouched_stripped : (gone : ℕ → Bool) → StripsLocks untouched gone untouched
untouched_stripped gone = record { bytes = λ other byte. none_stays (gone other); flocks = λ other. none_stays (gone other) }

module _ (old new : Files) (tickets : Tickets) (was : Waiters) (file : ℕ) (known : IsIndexed old tickets was) where
  stays : ((other : ℕ) → other ≢ file → entry_in new other ≡ entry_in old other) → IsIndexed new tickets was
      → ChangesFile (state_by old tickets was) file [] (state_by new tickets was)
  stays others indexed =
      changes_by old new tickets tickets was was file [] others refl (waiters_known new tickets was indexed)
      (CrossesBy-same (waits_in old) was (waiters_known old tickets was known) was (SameWaiters-itself was))

  -- owners lose their locks
  pub strips_by : (before after : LockFile) → entry_in old file ≡ Some before → PutsEntry old new file (Some after)
      → (file_state after).waits ≡ (file_state before).waits → (gone : ℕ → Bool) → StripsLocks (file_state before) gone (file_state after)
      → StripsLocksOn (state_by old tickets was) file gone (state_by new tickets was)
  strips_by before after is puts waits gone strips = record {
    strips = at_entries old new file before after (λ F G. StripsLocks F gone G) is puts strips;
    waits = at_entries old new file before after (λ F G. G.waits ≡ F.waits) is puts waits;
    changes = stays puts.others (kept_indexed old new tickets was file before after is puts known waits);
  }

pub strips_nothing : (files : Files) (tickets : Tickets) (waiters : Waiters) (file : ℕ) (gone : ℕ → Bool)
    → IsIndexed files tickets waiters → entry_in files file ≡ None
    → StripsLocksOn (state_by files tickets waiters) file gone (state_by files tickets waiters)
strips_nothing files tickets waiters file gone known none = record {
  strips = subst (λ (F : FileState). StripsLocks F gone F) (sym (ap state_at none)) (untouched_stripped gone);
  waits = refl;
  changes = stays files files tickets waiters file known (λ other differs. refl) known;
}

-- who has a detected wait after locks went had it before
unlocked_before : (M : State) (file : ℕ) (gone : ℕ → Bool) (T : State) → StripsLocksOn M file gone T → (other : ℕ) → HasDetected T other → HasDetected M other
unlocked_before M file gone T strips other has = search (rules, cases_eq)

-- none of the waits is left, and then the locks go
stripped_last : (S : State) (file : ℕ) (gone : ℕ → Bool) (M T : State) → IsDismissing S file (λ wait. gone wait.owner) M
    → All (λ wait. IsTrue (not (gone wait.owner))) (M.files file).waits → StripsLocksOn M file gone T → StripsOn S file gone T
stripped_last S file gone M T so_far all strips = record {
  strips = record {
    locks = record {
      bytes = λ other byte. strips.strips.bytes other byte ∙ ap (λ held. if gone other then None else held) (so_far.locks.bytes other byte);
      flocks = λ other. strips.strips.flocks other ∙ ap (λ held. if gone other then None else held) (so_far.locks.flocks other);
    };
    waits = strips.waits ∙ sym (filter_all (λ wait. not (gone wait.owner)) (M.files file).waits all) ∙ so_far.kept;
  };
  changes = record {
    others = λ other differs. SameFile-then (S.files other) (M.files other) (T.files other) (so_far.changes.others other differs) (strips.changes.others other differs);
    grants = strips.changes.grants ∙ so_far.changes.grants;
    crossed = crosses_then S M T [] [] (unlocked_before M file gone T strips) so_far.changes.crossed strips.changes.crossed;
  };
}

pub all_stripped : (S : State) (file : ℕ) (gone : ℕ → Bool) (M N T : State) → IsDismissing S file (λ wait. gone wait.owner) M
    → All (λ wait. IsTrue (not (gone wait.owner))) (M.files file).waits → SameState M N → StripsLocksOn N file gone T → StripsOn S file gone T
all_stripped S file gone M N T so_far all same strips =
    stripped_last S file gone M T so_far all (subst (λ (U : State). StripsLocksOn U file gone T) (state_from_same M N same) strips)

kept_or_not : (P : Pending → Type 0) (x : Pending) (kept xs : List Pending) → (Any P kept → Any P xs) → (b : Bool) → Any P (cond b (x ∷ kept) kept)
    → Any P (x ∷ xs)
kept_or_not P x kept xs more true some = elim (Any-cons P x kept some) [
  | inl here ↦ Any-here P x xs here
  | inr later ↦ Any-there P x xs (more later)
]
kept_or_not P x kept xs more false some = Any-there P x xs (more some)

-- what a filter leaves was there
any_filtered : (P : Pending → Type 0) (p : Pending → Bool) (xs : List Pending) → Any P (filter p xs) → Any P xs
any_filtered P p [] any = any
any_filtered P p (x ∷ xs) any = kept_or_not P x (filter p xs) xs (any_filtered P p xs) (p x) any

-- who has a detected wait after waits left had it before
stripped_before : (M : State) (file : ℕ) (gone : ℕ → Bool) (T : State) → StripsOn M file gone T → (other : ℕ) → HasDetected T other → HasDetected M other
stripped_before M file gone T strips other has = elim (cases_eq has.file file) [
  | inl here ↦ record {
    file = file;
    among = any_filtered (IsDetectedOf other) (λ wait. not (gone wait.owner)) (M.files file).waits
        (subst (λ (waits : List Pending). Any (IsDetectedOf other) waits) (ap (λ (f : ℕ). (T.files f).waits) here ∙ strips.strips.waits) has.among);
  }
  | inr differs ↦ record { file = has.file; among = subst (λ (waits : List Pending). Any (IsDetectedOf other) waits) (strips.changes.others has.file differs).waits has.among }
]

-- what leaves a file leaves one state of it
pub stripped_one : (F : FileState) (gone : ℕ → Bool) (G H : FileState) → StripsFile F gone G → StripsFile F gone H → SameFile G H
stripped_one F gone G H one other = record {
  locks = record {
    bytes = λ owner byte. other.locks.bytes owner byte ∙ sym (one.locks.bytes owner byte);
    flocks = λ owner. other.locks.flocks owner ∙ sym (one.locks.flocks owner);
  };
  waits = other.waits ∙ sym one.waits;
}

-- on all files below this one the owners have nothing, and from it on nothing has changed
pub record IsStripping (S : State) (gone : ℕ → Bool) (next : ℕ) (T : State) : Type 0 where
  pub earlier : (file : ℕ) → file < next → StripsFile (S.files file) gone (T.files file)
  pub later : (file : ℕ) → next ≤ file → SameFile (S.files file) (T.files file)
  pub grants : T.grants ≡ S.grants
  pub crossed : Crosses S [] T

pub stripping_none : (S : State) (gone : ℕ → Bool) → Crosses S [] S → IsStripping S gone 0 S
stripping_none S gone crossed = record {
  earlier = λ file before. absurd (omega (arith, before));
  later = λ file from. SameFile-itself (S.files file);
  grants = refl;
  crossed = crossed;
}

-- a file that is the same before and after
from_same : (F F' G G' : FileState) (gone : ℕ → Bool) → SameFile F F' → SameFile G G' → StripsFile F' gone G → StripsFile F gone G'
from_same F F' G G' gone before after strips =
    subst (λ (H : FileState). StripsFile F gone H) (sym (file_from_same G G' after))
    (subst (λ (H : FileState). StripsFile H gone G) (file_from_same F F' before) strips)

-- the next file, where on those between the owners have nothing
stripping_step : (S : State) (gone : ℕ → Bool) (next : ℕ) (M : State) (file : ℕ) (T : State) → IsStripping S gone next M → next ≤ file
    → ((other : ℕ) → next ≤ other → other < file → StripsFile (M.files other) gone (M.files other)) → StripsOn M file gone T → IsStripping S gone (file + 1) T
stripping_step S gone next M file T so_far from none strips = record {
  earlier = λ other before. elim (cases_lt other next) [
    | inl below ↦
        from_same (S.files other) (S.files other) (M.files other) (T.files other) gone (SameFile-itself (S.files other))
        (strips.changes.others other (λ is. omega (arith, is, below, from))) (so_far.earlier other below)
    | inr past ↦ elim (cases_eq other file) [
      | inl is ↦
          subst (λ (f : ℕ). StripsFile (S.files f) gone (T.files f)) (sym is)
          (from_same (S.files file) (M.files file) (T.files file) (T.files file) gone (so_far.later file from) (SameFile-itself (T.files file)) strips.strips)
      | inr differs ↦
          from_same (S.files other) (M.files other) (M.files other) (T.files other) gone (so_far.later other past)
          (strips.changes.others other differs) (none other past (omega arith))
    ]
  ];
  later = λ other past.
      SameFile-then (S.files other) (M.files other) (T.files other) (so_far.later other (omega arith))
      (strips.changes.others other (λ is. omega (arith, is, past)));
  grants = strips.changes.grants ∙ so_far.grants;
  crossed = crosses_then S M T [] [] (stripped_before M file gone T strips) so_far.crossed strips.changes.crossed;
}

pub stripping_more : (S : State) (gone : ℕ → Bool) (next : ℕ) (M : State) (file : ℕ) (between T : State) → IsStripping S gone next M → next ≤ file
    → ((other : ℕ) → next ≤ other → other < file → StripsFile (M.files other) gone (M.files other)) → StripsOn M file gone between
    → SameState between T → IsStripping S gone (file + 1) T
stripping_more S gone next M file between T so_far from none strips same =
    subst (λ (U : State). IsStripping S gone (file + 1) U) (sym (state_from_same between T same))
    (stripping_step S gone next M file between so_far from none strips)

-- from here on they have nothing on any file
pub all_files_stripped : (S : State) (gone : ℕ → Bool) (next : ℕ) (T : State) → IsStripping S gone next T
    → ((file : ℕ) → next ≤ file → StripsFile (T.files file) gone (T.files file)) → Strips S gone T
all_files_stripped S gone next T so_far none = record {
  files = λ file. elim (cases_lt file next) [
    | inl below ↦ so_far.earlier file below
    | inr past ↦
        from_same (S.files file) (T.files file) (T.files file) (T.files file) gone (so_far.later file past) (SameFile-itself (T.files file))
        (none file past)
  ];
  grants = so_far.grants;
  crossed = so_far.crossed;
}

-- an untouched file is settled
pub settled_untouched : (policy : Policy) (F : FileState) → SameFile untouched F → IsSettled policy F
settled_untouched policy F same = subst (λ (G : FileState). IsSettled policy G) (sym (file_from_same untouched F same)) tt

-- a file that is settled is settled again by nothing
pub settled_again : (policy : Policy) (S : State) (file : ℕ) → IsSettled policy (S.files file) → Crosses S [] S → SettlesFile policy S file S
settled_again policy S file settled crossed = record {
  granted = [];
  settles = (settled, SameFile-itself (S.files file));
  others = λ other differs. SameFile-itself (S.files other);
  grants = sym (append-nil S.grants);
  crossed = crossed;
}

-- all files below this one are settled, and from it on nothing has changed
pub record IsSettling (policy : Policy) (S : State) (next : ℕ) (T : State) : Type 0 where
  pub settles : SettlesBelow policy next S T
  pub later : (file : ℕ) → next ≤ file → SameFile (S.files file) (T.files file)

pub settling_none : (policy : Policy) (S : State) → IsSettling policy S 0 S
settling_none policy S =
    record { settles = record { files = λ file. SameFile-itself (S.files file); grants = refl; crossed = λ owner. refl }; later = λ file from. SameFile-itself (S.files file) }

-- as far as this file, where those on the way are settled
settling_to : (policy : Policy) (S : State) (next gap : ℕ) (M : State) → Crosses M [] M → IsSettling policy S next M
    → ((other : ℕ) → next ≤ other → other < next + gap → IsSettled policy (M.files other)) → SettlesBelow policy (next + gap) S M
settling_to policy S next zero M crossed so_far none = subst (λ (n : ℕ). SettlesBelow policy n S M) (sym (add-zero next)) so_far.settles
settling_to policy S next (suc gap) M crossed so_far none =
    subst (λ (n : ℕ). SettlesBelow policy n S M) (sym (add-suc next gap)) (
      M,
      settling_to policy S next gap M crossed so_far (λ other from before. none other from (omega arith)),
      settled_again policy M (next + gap) (none (next + gap) (omega arith) (omega arith)) crossed,
    )

pub settling_more : (policy : Policy) (S : State) (next : ℕ) (M : State) (file : ℕ) (after T : State) → Crosses M [] M → IsSettling policy S next M
    → next ≤ file → ((other : ℕ) → next ≤ other → other < file → IsSettled policy (M.files other)) → SettlesFile policy M file after
    → SameState after T → IsSettling policy S (file + 1) T
settling_more policy S next M file after T crossed so_far from none settles same =
    let gap_ends : next + (file - next) ≡ file = omega arith in
    subst (λ (U : State). IsSettling policy S (file + 1) U) (sym (state_from_same after T same)) (record {
      settles = subst (λ (n : ℕ). SettlesBelow policy n S after) (sym (add-one file))
          (M, subst (λ (n : ℕ). SettlesBelow policy n S M) gap_ends (settling_to policy S next (file - next) M crossed so_far (λ other past before. none other past (omega arith))), settles);
      later = λ other past.
          SameFile-then (S.files other) (M.files other) (after.files other) (so_far.later other (omega arith))
          (settles.others other (λ is. omega (arith, is, past)));
    })

-- from here on all files are settled
pub all_files_settled : (policy : Policy) (S : State) (next : ℕ) (T : State) → IsSettling policy S next T
    → ((file : ℕ) → next ≤ file → IsSettled policy (T.files file)) → SettlesAll policy S T
all_files_settled policy S next T so_far none = record {
  bound = next;
  beyond = λ file past.
      subst (λ (F : FileState). IsSettled policy F) (file_from_same (S.files file) (T.files file) (so_far.later file past)) (none file past);
  settles = so_far.settles;
}

-- no wait is left, and then the entry goes
pub all_waits_gone : (waits : List Pending) → All (λ wait. IsTrue (is_staying all_leave wait)) waits → waits ≡ []
all_waits_gone [] all = refl
all_waits_gone (wait ∷ waits) all = absurd (let h : false ≡ true = All-head (λ w. IsTrue (is_staying all_leave w)) wait waits all in cc)

pub forgets_by : (old new : Files) (tickets : Tickets) (was : Waiters) (file : ℕ) → IsIndexed old tickets was → PutsEntry old new file None
    → IsIndexed new tickets was → ForgetsFile (state_by old tickets was) file (state_by new tickets was)
forgets_by old new tickets was file known puts indexed = record {
  nothing = subst (λ (F : FileState). SameFile untouched F) (sym (ap state_at puts.here)) (SameFile-itself untouched);
  changes = stays old new tickets was file known puts.others indexed;
}

-- who has a detected wait after a file is gone had it before
forgotten_before : (M : State) (file : ℕ) (T : State) → ForgetsFile M file T → (other : ℕ) → HasDetected T other → HasDetected M other
forgotten_before M file T forgets other has = elim (cases_eq has.file file) [
  | inl here ↦
      absurd (Any-nil (IsDetectedOf other)
      (subst (λ (waits : List Pending). Any (IsDetectedOf other) waits) (ap (λ (f : ℕ). (T.files f).waits) here ∙ forgets.nothing.waits) has.among))
  | inr differs ↦ record { file = has.file; among = subst (λ (waits : List Pending). Any (IsDetectedOf other) waits) (forgets.changes.others has.file differs).waits has.among }
]

pub all_left : (S : State) (file : ℕ) (M N : State) → IsDismissing S file (is_leaving all_leave) M
    → All (λ wait. IsTrue (is_staying all_leave wait)) (M.files file).waits → SameState M N → AllLeave S file N
all_left S file M N so_far all same =
    subst (λ (U : State). AllLeave S file U) (sym (state_from_same M N same))
    (record { waits = all_waits_gone (M.files file).waits all; changes = so_far.changes })

pub file_forgotten : (S : State) (file : ℕ) (M T : State) → AllLeave S file M → ForgetsFile M file T → ForgetsFile S file T
file_forgotten S file M T leave forgets = record {
  nothing = forgets.nothing;
  changes = record {
    others = λ other differs. SameFile-then (S.files other) (M.files other) (T.files other) (leave.changes.others other differs) (forgets.changes.others other differs);
    grants = forgets.changes.grants ∙ leave.changes.grants;
    crossed = crosses_then S M T [] [] (forgotten_before M file T forgets) leave.changes.crossed forgets.changes.crossed;
  };
}
