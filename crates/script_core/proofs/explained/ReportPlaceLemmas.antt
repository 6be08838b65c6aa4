-- The report of the locks at some places alone: of some owners on some files, byte locks and flock locks apart.
use Rattle.script_core.proofs.Common.{arith, ◌≡◌, ◌≢◌, ℕ, zero, suc, ◌+◌, ◌<◌, ◌≤◌, ◌⊎◌, inl, inr, Bool, true, false, IsFalse, if◌then◌else◌, Option, Some, None, option_map, option_to_list, List, [], ◌∷◌, ◌++◌, All, Any, map, get_or, refl, sym, ap, ◌∙◌, subst, append-nil, common_steps, cases_eq, cases_lt, All-append, All-head, All-nil, All-tail, filter-append}
use Rattle.script_core.proofs.Common.{Mode, Span, Modes, Covers, AreRuns, Held, Owner, Process, Description, ByteModes, FlockModes, AreFlockLocks, IsFlockLine, IsFileReport, AreFileReports, IsHeldReport, byte_line, flock_line}
use Rattle.std.specs.List.{AllPairs, filter}
use Rattle.std.proofs.lemmas.List.Elements.{All-cons, All-filter, All-map}
use Rattle.range_core.specs.Ranges.{IsRun}
use Rattle.lock_book.specs.Owners.{IsBefore}
use Rattle.lock_book.specs.Reports.{AreByteLocks}
use Rattle.script_core.proofs.DeadlockLocksLemmas.{any_left, any_right}

-- a test of a place: whether of flock locks, on which file and of which owner
abbrev pub PlaceTest : Type 0
PlaceTest = Bool → ℕ → Owner → Bool

-- the byte locks at the places of which it holds
abbrev pub bytes_at : PlaceTest → (ℕ → ByteModes) → ℕ → ByteModes
bytes_at test bytes file owner byte = if test false file owner then bytes file owner byte else None

-- the flock locks there
abbrev pub flocks_at : PlaceTest → (ℕ → FlockModes) → ℕ → FlockModes
flocks_at test flocks file d = if test true file (Description d) then flocks file d else None

-- whether it holds of the place of a line
abbrev pub line_at : PlaceTest → Held → Bool
line_at test held = test held.whole held.file held.owner

-- by owner, and those of one owner by byte
abbrev InByteOrder : Held → Held → Type 0
InByteOrder x y = IsBefore x.owner y.owner ⊎ ((x.owner ≡ y.owner) × (x.span.last < y.span.first))

-- by owner
abbrev InFlockOrder : Held → Held → Type 0
InFlockOrder x y = IsBefore x.owner y.owner

-- the line says this mode of the owner on the byte
abbrev SaysMode : Owner → ℕ → Mode → Held → Type 0
SaysMode owner byte mode x = (x.owner ≡ owner) × (x.mode ≡ mode) × Covers x.span byte

-- the line says this flock mode of the description
abbrev SaysFlock : ℕ → Mode → Held → Type 0
SaysFlock d mode x = (x.owner ≡ Description d) × (x.mode ≡ mode)

-- ---- pairs of a list

pairs_head : {X : Type 0} (R : X → X → Type 0) (y : X) (ys : List X) → AllPairs R (y ∷ ys) → All (R y) ys
pairs_head R y ys pairs k d within = pairs 0 (suc k) d (omega arith) (omega arith)

pairs_tail : {X : Type 0} (R : X → X → Type 0) (y : X) (ys : List X) → AllPairs R (y ∷ ys) → AllPairs R ys
pairs_tail R y ys pairs i j d before within = pairs (suc i) (suc j) d (omega arith) (omega arith)

pairs_nil : {X : Type 0} (R : X → X → Type 0) → AllPairs R []
pairs_nil R i j d before within = absurd (omega (arith, before, within))

pairs_cons : {X : Type 0} (R : X → X → Type 0) (y : X) (ys : List X) → All (R y) ys → AllPairs R ys → AllPairs R (y ∷ ys)
pairs_cons R y ys first rest zero zero d before within = absurd (omega (arith, before))
pairs_cons R y ys first rest zero (suc j) d before within = first j d (omega (arith, within))
pairs_cons R y ys first rest (suc i) zero d before within = absurd (omega (arith, before))
pairs_cons R y ys first rest (suc i) (suc j) d before within = rest i j d (omega (arith, before)) (omega (arith, within))

pairs_filter : {X : Type 0} (R : X → X → Type 0) (test : X → Bool) (xs : List X) → AllPairs R xs → AllPairs R (filter test xs)
pairs_filter R test [] pairs = pairs_nil R
pairs_filter {X} R test (x ∷ xs) pairs =
    let rest = pairs_filter R test xs (pairs_tail R x xs pairs) in
    let first = All-filter test (R x) xs (pairs_head R x xs pairs) in
    by_test (test x) first rest
  where
    by_test : (b : Bool) → All (R x) (filter test xs) → AllPairs R (filter test xs) → AllPairs R (if b then x ∷ filter test xs else filter test xs)
    by_test true first rest = pairs_cons R x (filter test xs) first rest
    by_test false first rest = rest

pairs_append : {X : Type 0} (R : X → X → Type 0) (xs ys : List X) → AllPairs R xs → AllPairs R ys → All (λ x. All (R x) ys) xs → AllPairs R (xs ++ ys)
pairs_append R [] ys first second across = second
pairs_append R (x ∷ xs) ys first second across =
    pairs_cons R x (xs ++ ys) (All-append (R x) xs ys (pairs_head R x xs first) (All-head (λ z. All (R z) ys) x xs across))
    (pairs_append R xs ys (pairs_tail R x xs first) second (All-tail (λ z. All (R z) ys) x xs across))

pairs_map : {X Y : Type 0} (R : Y → Y → Type 0) (f : X → Y) (xs : List X) → AllPairs (λ x y. R (f x) (f y)) xs → AllPairs R (map f xs)
pairs_map R f [] pairs = pairs_nil R
pairs_map R f (x ∷ xs) pairs =
    pairs_cons R (f x) (map f xs) (All-map (R (f x)) f xs (pairs_head (λ x y. R (f x) (f y)) x xs pairs))
    (pairs_map R f xs (pairs_tail (λ x y. R (f x) (f y)) x xs pairs))

-- ---- some of a list

any_here : {X : Type 0} (P : X → Type 0) (x : X) (xs : List X) → P x → Any P (x ∷ xs)
any_here P x xs holds = (0, x, omega arith, refl, holds)

any_there : {X : Type 0} (P : X → Type 0) (x : X) (xs : List X) → Any P xs → Any P (x ∷ xs)
any_there P x xs (k, y, within, is, holds) = (suc k, y, omega (arith, within), is, holds)

any_cases : {X : Type 0} (P : X → Type 0) (x : X) (xs : List X) → Any P (x ∷ xs) → P x ⊎ Any P xs
any_cases P x xs (zero, y, within, is, holds) = inl (subst P (sym is) holds)
any_cases P x xs (suc k, y, within, is, holds) = inr (k, y, omega (arith, within), is, holds)

any_filter : {X : Type 0} (E P : X → Type 0) (test : X → Bool) (xs : List X) → ((x : X) → E x → P x → test x ≡ true) → All E xs → Any P xs
    → Any P (filter test xs)
any_filter E P test [] holds each there = there
any_filter {X} E P test (x ∷ xs) holds each there = elim (any_cases P x xs there) [
  | inl here ↦ rw (holds x (All-head E x xs each) here) (any_here P x (filter test xs) here)
  | inr later ↦ by_test (test x) (any_filter E P test xs holds (All-tail E x xs each) later)
]
  where
    by_test : (b : Bool) → Any P (filter test xs) → Any P (if b then x ∷ filter test xs else filter test xs)
    by_test true rest = any_there P x (filter test xs) rest
    by_test false rest = rest

any_map : {X Y : Type 0} (P : Y → Type 0) (f : X → Y) (xs : List X) → Any (λ x. P (f x)) xs → Any P (map f xs)
any_map P f [] (k, x, within, is, holds) = absurd (omega (arith, within))
any_map P f (x ∷ xs) there = elim (any_cases (λ x. P (f x)) x xs there) [
  | inl here ↦ any_here P (f x) (map f xs) here
  | inr later ↦ any_there P (f x) (map f xs) (any_map P f xs later)
]

-- ---- the lines of these places

-- what holds of each line for the locks that it says holds of each that is left for those that are
all_left : {X : Type 0} (P Q : X → Type 0) (test : X → Bool) (xs : List X) → ((x : X) → test x ≡ true → P x → Q x) → All P xs → All Q (filter test xs)
all_left P Q test [] f all = All-nil Q
all_left {X} P Q test (x ∷ xs) f all =
    by_test (test x) refl (all_left P Q test xs f (All-tail P x xs all))
  where
    by_test : (b : Bool) → test x ≡ b → All Q (filter test xs) → All Q (if b then x ∷ filter test xs else filter test xs)
    by_test true is rest = All-cons Q x (filter test xs) (f x is (All-head P x xs all)) rest
    by_test false is rest = rest

same_modes : (test : PlaceTest) (bytes : ℕ → ByteModes) (file : ℕ) (owner : Owner) → test false file owner ≡ true
    → bytes file owner ≡ bytes_at test bytes file owner
same_modes test bytes file owner is = λ i byte. at byte i
  where
    at : (byte : ℕ) → bytes file owner byte ≡ bytes_at test bytes file owner byte
    at byte = rw is refl

some_at : (b : Bool) (found : Option Mode) (mode : Mode) → (if b then found else None) ≡ Some mode → (b ≡ true) × (found ≡ Some mode)
some_at true found mode is = (refl, is)
some_at false found mode is = absurd (let bad : None ≡ Some mode = is in cc)

-- a byte lock on the file, as a report of these locks says it
abbrev pub IsByteLine : ℕ → ByteModes → Held → Type 0
IsByteLine file modes x = (x.file ≡ file) × IsFalse x.whole × IsRun (modes x.owner) x.span.first x.mode x.span

byte_line_at : (test : PlaceTest) (file : ℕ) (x : Held) → x.file ≡ file → IsFalse x.whole → line_at test x ≡ test false file x.owner
byte_line_at test file x same low = grind (arith, common_steps)

bytes_left : (test : PlaceTest) (file : ℕ) (bytes : ℕ → ByteModes) (locks : List Held) → AreByteLocks file (bytes file) locks
    → AreByteLocks file (bytes_at test bytes file) (filter (line_at test) locks)
bytes_left test file bytes locks h = record {
  in_order = pairs_filter InByteOrder (line_at test) locks h.in_order;
  each = all_left (IsByteLine file (bytes file)) (IsByteLine file (bytes_at test bytes file)) (line_at test) locks still h.each;
  every = λ owner byte mode is.
      let found = some_at (test false file owner) (bytes file owner byte) mode is in
      any_filter (IsByteLine file (bytes file)) (SaysMode owner byte mode) (line_at test) locks
      (λ x line here. byte_line_at test file x line.0 line.1 ∙ ap (test false file) here.0 ∙ found.0) h.each (h.every owner byte mode found.1);
}
  where
    still : (x : Held) → line_at test x ≡ true → IsByteLine file (bytes file) x → IsByteLine file (bytes_at test bytes file) x
    still x is line =
        let at : test false file x.owner ≡ true = sym (byte_line_at test file x line.0 line.1) ∙ is in
        (line.0, line.1, subst (λ (m : Modes). IsRun m x.span.first x.mode x.span) (same_modes test bytes file x.owner at) line.2)

flock_line_at : (test : PlaceTest) (file : ℕ) (flocks : FlockModes) (x : Held) → (h : IsFlockLine file flocks x)
    → line_at test x ≡ test true file (Description h.description)
flock_line_at test file flocks x h = grind (arith, common_steps)

flocks_left : (test : PlaceTest) (file : ℕ) (flocks : ℕ → FlockModes) (locks : List Held) → AreFlockLocks file (flocks file) locks
    → AreFlockLocks file (flocks_at test flocks file) (filter (line_at test) locks)
flocks_left test file flocks locks h = record {
  in_order = pairs_filter InFlockOrder (line_at test) locks h.in_order;
  each = all_left (IsFlockLine file (flocks file)) (IsFlockLine file (flocks_at test flocks file)) (line_at test) locks still h.each;
  every = λ description mode is.
      let found = some_at (test true file (Description description)) (flocks file description) mode is in
      any_filter (IsFlockLine file (flocks file)) (SaysFlock description mode) (line_at test) locks
      (λ x line here.
      flock_line_at test file (flocks file) x line ∙ ap (test true file) (sym line.owner ∙ here.0) ∙ found.0) h.each (h.every description mode found.1);
}
  where
    still : (x : Held) → line_at test x ≡ true → IsFlockLine file (flocks file) x → IsFlockLine file (flocks_at test flocks file) x
    still x is line =
        let at : test true file (Description line.description) ≡ true = sym (flock_line_at test file (flocks file) x line) ∙ is in
        record {
          same_file = line.same_file;
          whole = line.whole;
          span = line.span;
          description = line.description;
          owner = line.owner;
          mode = rw at line.mode;
        }

file_left : (test : PlaceTest) (file : ℕ) (bytes : ℕ → ByteModes) (flocks : ℕ → FlockModes) (report : List Held)
    → IsFileReport file (bytes file) (flocks file) report
    → IsFileReport file (bytes_at test bytes file) (flocks_at test flocks file) (filter (line_at test) report)
file_left test file bytes flocks report h = record {
  byte_locks = filter (line_at test) h.byte_locks;
  flock_locks = filter (line_at test) h.flock_locks;
  is = ap (filter (line_at test)) h.is ∙ filter-append (line_at test) h.byte_locks h.flock_locks;
  are_bytes = bytes_left test file bytes h.byte_locks h.are_bytes;
  are_flocks = flocks_left test file flocks h.flock_locks h.are_flocks;
}

files_left : (test : PlaceTest) (file more : ℕ) (bytes : ℕ → ByteModes) (flocks : ℕ → FlockModes) (report : List Held)
    → AreFileReports file more bytes flocks report
    → AreFileReports file more (bytes_at test bytes) (flocks_at test flocks) (filter (line_at test) report)
files_left test file zero bytes flocks report h = ap (filter (line_at test)) h
files_left test file (suc more) bytes flocks report h = (
  filter (line_at test) h.0,
  filter (line_at test) h.1,
  ap (filter (line_at test)) h.2 ∙ filter-append (line_at test) h.0 h.1,
  file_left test file bytes flocks h.0 h.3,
  files_left test (file + 1) more bytes flocks h.1 h.4,
)

-- the lines of a report at these places are the report of the locks there
pub report_left : (test : PlaceTest) (bytes : ℕ → ByteModes) (flocks : ℕ → FlockModes) (report : List Held) → IsHeldReport bytes flocks report
    → IsHeldReport (bytes_at test bytes) (flocks_at test flocks) (filter (line_at test) report)
unfolding IsHeldReport
report_left test bytes flocks report h = files_left test 0 64 bytes flocks report h

-- ---- locks that agree

files_agree : (file more : ℕ) (bytes bytes' : ℕ → ByteModes) (flocks flocks' : ℕ → FlockModes) (report : List Held)
    → ((f : ℕ) → f < file + more → (owner : Owner) (byte : ℕ) → bytes f owner byte ≡ bytes' f owner byte)
    → ((f : ℕ) → f < file + more → (d : ℕ) → flocks f d ≡ flocks' f d)
    → AreFileReports file more bytes flocks report → AreFileReports file more bytes' flocks' report
files_agree file zero bytes bytes' flocks flocks' report same same_flocks h = h
files_agree file (suc more) bytes bytes' flocks flocks' report same same_flocks h =
    let here : file < file + suc more = omega arith in
    let both : bytes file ≡ bytes' file = λ i owner byte. same file here owner byte i in
    let flocks_both : flocks file ≡ flocks' file = λ i d. same_flocks file here d i in (
      h.0,
      h.1,
      h.2,
      subst (λ (m : ByteModes). IsFileReport file m (flocks' file) h.0) both
          (subst (λ (m : FlockModes). IsFileReport file (bytes file) m h.0) flocks_both h.3),
      files_agree (file + 1) more bytes bytes' flocks flocks' h.1 (λ f low. same f (omega (arith, low))) (λ f low. same_flocks f (omega (arith, low))) h.4,
    )

-- locks that agree on each of the 64 files have the same reports
pub reports_agree : (bytes bytes' : ℕ → ByteModes) (flocks flocks' : ℕ → FlockModes) (report : List Held)
    → ((f : ℕ) → f < 64 → (owner : Owner) (byte : ℕ) → bytes f owner byte ≡ bytes' f owner byte)
    → ((f : ℕ) → f < 64 → (d : ℕ) → flocks f d ≡ flocks' f d) → IsHeldReport bytes flocks report → IsHeldReport bytes' flocks' report
unfolding IsHeldReport
reports_agree bytes bytes' flocks flocks' report same same_flocks h =
    files_agree 0 64 bytes bytes' flocks flocks' report (λ f low. same f (omega (arith, low))) (λ f low. same_flocks f (omega (arith, low))) h

-- ---- a report of one file

pub no_bytes : (file : ℕ) (modes : ByteModes) → ((owner : Owner) (byte : ℕ) → modes owner byte ≡ None) → AreByteLocks file modes []
no_bytes file modes none = record {
  in_order = pairs_nil InByteOrder;
  each = All-nil (IsByteLine file modes);
  every = λ owner byte mode is. absurd (let bad : None ≡ Some mode = sym (none owner byte) ∙ is in cc);
}

no_flocks : (file : ℕ) (modes : FlockModes) → ((d : ℕ) → modes d ≡ None) → AreFlockLocks file modes []
no_flocks file modes none = record {
  in_order = pairs_nil InFlockOrder;
  each = All-nil (IsFlockLine file modes);
  every = λ d mode is. absurd (let bad : None ≡ Some mode = sym (none d) ∙ is in cc);
}

empty_files : (file more : ℕ) (bytes : ℕ → ByteModes) (flocks : ℕ → FlockModes)
    → ((f : ℕ) → file ≤ f → (owner : Owner) (byte : ℕ) → bytes f owner byte ≡ None) → ((f : ℕ) → file ≤ f → (d : ℕ) → flocks f d ≡ None)
    → AreFileReports file more bytes flocks []
empty_files file zero bytes flocks none none_flocks = refl
empty_files file (suc more) bytes flocks none none_flocks = (
  [],
  [],
  refl,
  record {
    byte_locks = [];
    flock_locks = [];
    is = refl;
    are_bytes = no_bytes file (bytes file) (none file (omega arith));
    are_flocks = no_flocks file (flocks file) (none_flocks file (omega arith));
  },
  empty_files (file + 1) more bytes flocks (λ f from. none f (omega (arith, from))) (λ f from. none_flocks f (omega (arith, from))),
)

one_of_files : (file more here : ℕ) (bytes : ℕ → ByteModes) (flocks : ℕ → FlockModes) (report : List Held) → file ≤ here → here < file + more
    → ((f : ℕ) → f ≢ here → (owner : Owner) (byte : ℕ) → bytes f owner byte ≡ None) → ((f : ℕ) → f ≢ here → (d : ℕ) → flocks f d ≡ None)
    → IsFileReport here (bytes here) (flocks here) report → AreFileReports file more bytes flocks report
one_of_files file zero here bytes flocks report from below none none_flocks h = absurd (omega (arith, from, below))
one_of_files file (suc more) here bytes flocks report from below none none_flocks h = elim (cases_lt file here) [
  | inl later ↦ (
    [],
    report,
    refl,
    record {
      byte_locks = [];
      flock_locks = [];
      is = refl;
      are_bytes = no_bytes file (bytes file) (none file (λ e. omega (arith, e, later)));
      are_flocks = no_flocks file (flocks file) (none_flocks file (λ e. omega (arith, e, later)));
    },
    one_of_files (file + 1) more here bytes flocks report (omega (arith, later)) (omega (arith, below)) none none_flocks h,
  )
  | inr upto ↦
      let same : here ≡ file = omega (arith, from, upto) in (
        report,
        [],
        sym (append-nil report),
        subst (λ (f : ℕ). IsFileReport f (bytes f) (flocks f) report) same h,
        empty_files (file + 1) more bytes flocks (λ f past. none f (λ e. omega (arith, e, same, past))) (λ f past. none_flocks f (λ e. omega (arith, e, same, past))),
      )
]

-- locks on one file alone are reported as that file's
pub file_reported : (here : ℕ) (bytes : ℕ → ByteModes) (flocks : ℕ → FlockModes) (report : List Held) → here < 64
    → ((f : ℕ) → f ≢ here → (owner : Owner) (byte : ℕ) → bytes f owner byte ≡ None) → ((f : ℕ) → f ≢ here → (d : ℕ) → flocks f d ≡ None)
    → IsFileReport here (bytes here) (flocks here) report → IsHeldReport bytes flocks report
unfolding IsHeldReport
file_reported here bytes flocks report low none none_flocks h =
    one_of_files 0 64 here bytes flocks report (omega arith) (omega (arith, low)) none none_flocks h

-- no locks are reported as none
pub none_reported : (bytes : ℕ → ByteModes) (flocks : ℕ → FlockModes) → ((f : ℕ) (owner : Owner) (byte : ℕ) → bytes f owner byte ≡ None)
    → ((f d : ℕ) → flocks f d ≡ None) → IsHeldReport bytes flocks []
unfolding IsHeldReport
none_reported bytes flocks none none_flocks = empty_files 0 64 bytes flocks (λ f from. none f) (λ f from. none_flocks f)

-- ---- the locks of a process and of a description on one file

-- the runs of one owner, as the report says them
owner_lines : (file : ℕ) (owner : Owner) (modes : ByteModes) (runs : List (Mode × Span)) → AreRuns (modes owner) runs
    → All (IsByteLine file modes) (map (byte_line file owner) runs)
owner_lines file owner modes runs are =
    All-map (IsByteLine file modes) (byte_line file owner) runs (λ k d within. (refl, refl, are.each k d within))

owner_order : (file : ℕ) (owner : Owner) (modes : ByteModes) (runs : List (Mode × Span)) → AreRuns (modes owner) runs
    → AllPairs InByteOrder (map (byte_line file owner) runs)
owner_order file owner modes runs are =
    pairs_map InByteOrder (byte_line file owner) runs (λ i j d before within. inr (refl, are.rising i j d before within))

owner_every : (file : ℕ) (owner : Owner) (modes : ByteModes) (runs : List (Mode × Span)) → AreRuns (modes owner) runs → (byte : ℕ) (mode : Mode)
    → modes owner byte ≡ Some mode
    → Any (SaysMode owner byte mode) (map (byte_line file owner) runs)
owner_every file owner modes runs are byte mode is =
    let found = are.every byte mode is in
    any_map (SaysMode owner byte mode) (byte_line file owner) runs (found.0, found.1, found.2, found.3, (refl, found.4.0, found.4.1))

-- a process stands before each description
process_first : (file p d : ℕ) (run : Mode × Span) (others : List (Mode × Span))
    → All (InByteOrder (byte_line file (Process p) run)) (map (byte_line file (Description d)) others)
process_first file p d run others = All-map (InByteOrder (byte_line file (Process p) run)) (byte_line file (Description d)) others (λ j s low. inl tt)

-- the byte locks of a process and of a description, where no other has any
pub both_bytes : (file p d : ℕ) (modes : ByteModes) (own others : List (Mode × Span)) → AreRuns (modes (Process p)) own
    → AreRuns (modes (Description d)) others → ((q : ℕ) → q ≢ p → (byte : ℕ) → modes (Process q) byte ≡ None)
    → ((e : ℕ) → e ≢ d → (byte : ℕ) → modes (Description e) byte ≡ None)
    → AreByteLocks file modes (map (byte_line file (Process p)) own ++ map (byte_line file (Description d)) others)
both_bytes file p d modes own others are are_others none none_others = record {
  in_order = pairs_append InByteOrder (map (byte_line file (Process p)) own) (map (byte_line file (Description d)) others)
      (owner_order file (Process p) modes own are) (owner_order file (Description d) modes others are_others)
      (All-map (λ x. All (InByteOrder x) (map (byte_line file (Description d)) others)) (byte_line file (Process p)) own
      (λ k r within. process_first file p d (get_or own k r) others));
  each = All-append (IsByteLine file modes) (map (byte_line file (Process p)) own) (map (byte_line file (Description d)) others)
      (owner_lines file (Process p) modes own are) (owner_lines file (Description d) modes others are_others);
  every = by_owner;
}
  where
    by_owner : (owner : Owner) (byte : ℕ) (mode : Mode) → modes owner byte ≡ Some mode
        → Any (SaysMode owner byte mode)
        (map (byte_line file (Process p)) own ++ map (byte_line file (Description d)) others)
    by_owner (Process q) byte mode is = elim (cases_eq q p) [
      | inl same ↦
          any_left (SaysMode (Process q) byte mode) (map (byte_line file (Process p)) own) (map (byte_line file (Description d)) others)
          (subst (λ (r : ℕ). Any (SaysMode (Process r) byte mode) (map (byte_line file (Process p)) own)) (sym same)
          (owner_every file (Process p) modes own are byte mode (ap (λ (r : ℕ). modes (Process r) byte) (sym same) ∙ is)))
      | inr differs ↦ absurd (let bad : None ≡ Some mode = sym (none q differs byte) ∙ is in cc)
    ]
    by_owner (Description e) byte mode is = elim (cases_eq e d) [
      | inl same ↦
          any_right (SaysMode (Description e) byte mode) (map (byte_line file (Process p)) own) (map (byte_line file (Description d)) others)
          (subst (λ (r : ℕ). Any (SaysMode (Description r) byte mode) (map (byte_line file (Description d)) others)) (sym same)
          (owner_every file (Description d) modes others are_others byte mode (ap (λ (r : ℕ). modes (Description r) byte) (sym same) ∙ is)))
      | inr differs ↦ absurd (let bad : None ≡ Some mode = sym (none_others e differs byte) ∙ is in cc)
    ]

-- the flock lock of a description, where no other has one
pub one_flock : (file d : ℕ) (modes : FlockModes) (found : Option Mode) → modes d ≡ found → ((e : ℕ) → e ≢ d → modes e ≡ None)
    → AreFlockLocks file modes (option_to_list (option_map (flock_line file d) found))
one_flock file d modes None is none = no_flocks file modes (λ e. elim (cases_eq e d) [
  | inl same ↦ ap modes same ∙ is
  | inr differs ↦ none e differs
])
one_flock file d modes (Some mode) is none = record {
  in_order = pairs_cons InFlockOrder (flock_line file d mode) [] (All-nil (InFlockOrder (flock_line file d mode))) (pairs_nil InFlockOrder);
  each = All-cons (IsFlockLine file modes) (flock_line file d mode) []
      (record { same_file = refl; whole = refl; span = refl; description = d; owner = refl; mode = is }) (All-nil (IsFlockLine file modes));
  every = λ e other has. elim (cases_eq e d) [
    | inl same ↦
        (let mode_is : mode ≡ other = (let both : Some mode ≡ Some other = sym is ∙ ap modes (sym same) ∙ has in cc) in
        any_here (SaysFlock e other) (flock_line file d mode) [] (ap Description (sym same), mode_is))
    | inr differs ↦ absurd (let bad : None ≡ Some other = sym (none e differs) ∙ has in cc)
  ];
}
