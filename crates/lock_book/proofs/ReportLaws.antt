-- The report is determined by the locks: for `locks_have_one_file_report` and `locks_have_one_report`.
use Rattle.lock_book.proofs.Common.{common_steps, ℕ, ◌≡◌, ◌≤◌, ◌∙◌, sym, ap, refl, subst, arith, zero, suc, Bool, List, [], ◌∷◌, ◌++◌, All, inl, inr, AllPairs, Mode, Span, Modes, Covers, IsRun, Owner, Held, IsBefore, ByteModes}
use Rattle.std.specs.List.{Contains}
use Rattle.std.specs.Prelude.{◌⊎◌, ◌+◌}
use Rattle.std.proofs.lemmas.List.Elements.{All-contains, Contains-get_or, Contains-append_right, Contains-append_cases, Contains-push_cases}
use Rattle.lock_book.specs.Conflicts.{FlockModes}
use Rattle.lock_book.specs.Reports.{AreByteLocks, AreFlockLocks, AreFileReports, IsHeldReport}
use Rattle.lock_book.specs.OneReport.{LocksHaveOneFileReport, LocksHaveOneReport}
use Rattle.lock_book.proofs.OwnerLemmas.{IsBefore-asymmetric, IsBefore-same}
use Rattle.lock_book.proofs.HeldLemmas.{ComesBefore, IsRunLine}

contains_none : {X : Type 0} (x : X) → Contains [] x → ⊥
contains_none x (k, within, is) = omega arith

contains_cons : {X : Type 0} (y : X) (ys : List X) (x : X) → Contains (y ∷ ys) x → (y ≡ x) ⊎ Contains ys x
contains_cons y ys x there = grind (arith, common_steps, Contains-append_cases, Contains-push_cases, contains_none)

contains_head : {X : Type 0} (y : X) (ys : List X) → Contains (y ∷ ys) y
contains_head y ys = Contains-get_or (y ∷ ys) 0 y (omega arith)

pub pairs_head : {X : Type 0} (R : X → X → Type 0) (y : X) (ys : List X) → AllPairs R (y ∷ ys) → All (R y) ys
pairs_head R y ys pairs k d within = pairs 0 (suc k) d (omega arith) (omega arith)

pairs_tail : {X : Type 0} (R : X → X → Type 0) (y : X) (ys : List X) → AllPairs R (y ∷ ys) → AllPairs R ys
pairs_tail R y ys pairs i j d before within = pairs (suc i) (suc j) d (omega arith) (omega arith)

-- two lists in one order with the same elements are one
sorted_unique : {X : Type 0} (R : X → X → Type 0) → ((x y : X) → R x y → R y x → ⊥) → (xs ys : List X) → AllPairs R xs → AllPairs R ys
    → ((x : X) → Contains xs x → Contains ys x) → ((x : X) → Contains ys x → Contains xs x) → xs ≡ ys
sorted_unique R asymmetric [] [] first second into back = refl
sorted_unique R asymmetric [] (y ∷ ys) first second into back = absurd (contains_none y (back y (contains_head y ys)))
sorted_unique R asymmetric (x ∷ xs) [] first second into back = absurd (contains_none x (into x (contains_head x xs)))
sorted_unique {X} R asymmetric (x ∷ xs) (y ∷ ys) first second into back =
    let same : x ≡ y = elim (contains_cons y ys x (into x (contains_head x xs))) [
      | inl e ↦ sym e
      | inr later ↦ elim (contains_cons x xs y (back y (contains_head y ys))) [
        | inl e ↦ e
        | inr behind ↦
            absurd (asymmetric x y (All-contains (R x) xs y (pairs_head R x xs first) behind) (All-contains (R y) ys x (pairs_head R y ys second) later))
      ]
    ] in
    let tails : xs ≡ ys = sorted_unique R asymmetric xs ys (pairs_tail R x xs first) (pairs_tail R y ys second)
    (λ z there. elim (contains_cons y ys z (into z (Contains-append_right (x ∷ []) xs z there))) [
      | inl e ↦
          (let itself : R x x = subst (R x) (sym (same ∙ e)) (All-contains (R x) xs z (pairs_head R x xs first) there) in
          absurd (asymmetric x x itself itself))
      | inr later ↦ later
    ])
    (λ z there. elim (contains_cons x xs z (back z (Contains-append_right (y ∷ []) ys z there))) [
      | inl e ↦
          (let itself : R y y = subst (R y) (sym (sym same ∙ e)) (All-contains (R y) ys z (pairs_head R y ys second) there) in
          absurd (asymmetric y y itself itself))
      | inr later ↦ later
    ]) in
    ap (λ (l : List X). x ∷ l) tails ∙ ap (λ (h : X). h ∷ ys) same

-- a line by its fields
line_of : ℕ → Bool → Owner → Mode → Span → Held
line_of file whole owner mode span = record { file = file; whole = whole; owner = owner; mode = mode; span = span }

same_line : (x z : Held) → z.file ≡ x.file → z.whole ≡ x.whole → z.owner ≡ x.owner → z.mode ≡ x.mode → z.span ≡ x.span → z ≡ x
unfolding line_of
same_line x z file whole owner mode span =
    let e : line_of z.file z.whole z.owner z.mode z.span ≡ line_of x.file x.whole x.owner x.mode x.span = cc in e

-- two runs of one mode that share a first byte are one
same_run : (modes : Modes) (mode : Mode) (one other : Span) → Covers other one.first → IsRun modes one.first mode one
    → IsRun modes other.first mode other → other ≡ one
same_run modes mode one other shared one_run other_run = grind (arith, common_steps)

same_byte_line : (file : ℕ) (modes : ByteModes) (x z : Held) → IsRunLine file modes x → IsRunLine file modes z → z.owner ≡ x.owner → z.mode ≡ x.mode
    → Covers z.span x.span.first → z ≡ x
same_byte_line file modes x z x_line z_line owner mode shared = grind (arith, common_steps, same_line, same_run)

-- each byte lock of one report is one of the other
byte_lock_in : (file : ℕ) (modes : ByteModes) (xs ys : List Held) → AreByteLocks file modes xs → AreByteLocks file modes ys → (x : Held)
    → Contains xs x → Contains ys x
byte_lock_in file modes xs ys first second x there =
    let line = All-contains (IsRunLine file modes) xs x first.each there in
    let shown = second.every x.owner x.span.first x.mode (line.2.constant x.span.first line.2.covered) in
    let other = All-contains (IsRunLine file modes) ys shown.1 second.each (shown.0, shown.2, shown.3) in
    subst (Contains ys) (same_byte_line file modes x shown.1 line other shown.4.0 shown.4.1 shown.4.2) (shown.0, shown.2, shown.3)

-- the order of two byte locks that have bytes
InOrder : Held → Held → Type 0
InOrder x y = ComesBefore x y × (x.span.first ≤ x.span.last) × (y.span.first ≤ y.span.last)

in_order_once : (x y : Held) → InOrder x y → InOrder y x → ⊥
unfolding InOrder
in_order_once x y one other = grind (arith, common_steps, IsBefore-asymmetric, IsBefore-same)

in_order : (file : ℕ) (modes : ByteModes) (xs : List Held) → AreByteLocks file modes xs → AllPairs InOrder xs
unfolding InOrder
in_order file modes xs are i j d before within = grind (arith, common_steps)

-- so the byte locks are determined
AreByteLocks-unique : (file : ℕ) (modes : ByteModes) (xs ys : List Held) → AreByteLocks file modes xs → AreByteLocks file modes ys → xs ≡ ys
AreByteLocks-unique file modes xs ys first second =
    sorted_unique InOrder in_order_once xs ys (in_order file modes xs first) (in_order file modes ys second)
    (byte_lock_in file modes xs ys first second) (byte_lock_in file modes ys xs second first)

-- each flock lock of one report is one of the other
flock_lock_in : (file : ℕ) (modes : FlockModes) (xs ys : List Held) → AreFlockLocks file modes xs → AreFlockLocks file modes ys → (x : Held)
    → Contains xs x → Contains ys x
flock_lock_in file modes xs ys first second x there = grind (arith, common_steps, All-contains, same_line)

AreFlockLocks-unique : (file : ℕ) (modes : FlockModes) (xs ys : List Held) → AreFlockLocks file modes xs → AreFlockLocks file modes ys → xs ≡ ys
AreFlockLocks-unique file modes xs ys first second =
    sorted_unique (λ x y. IsBefore x.owner y.owner) (λ x y one other. IsBefore-asymmetric x.owner y.owner one other) xs ys first.in_order second.in_order
    (flock_lock_in file modes xs ys first second) (flock_lock_in file modes ys xs second first)

-- there is one report of a file at most
pub IsFileReport-unique : LocksHaveOneFileReport
IsFileReport-unique file bytes flocks one other first second =
    first.is
    ∙ ap (λ (l : List Held). l ++ first.flock_locks) (AreByteLocks-unique file bytes first.byte_locks second.byte_locks first.are_bytes second.are_bytes)
    ∙ ap (λ (l : List Held). second.byte_locks ++ l) (AreFlockLocks-unique file flocks first.flock_locks second.flock_locks first.are_flocks second.are_flocks)
    ∙ sym second.is

-- file by file
AreFileReports-unique : (file more : ℕ) (bytes : ℕ → ByteModes) (flocks : ℕ → FlockModes) (one other : List Held)
    → AreFileReports file more bytes flocks one → AreFileReports file more bytes flocks other → one ≡ other
AreFileReports-unique file zero bytes flocks one other first second = first ∙ sym second
AreFileReports-unique file (suc more) bytes flocks one other first second =
    first.2
    ∙ ap (λ (l : List Held). l ++ first.1) (IsFileReport-unique file (bytes file) (flocks file) first.0 second.0 first.3 second.3)
    ∙ ap (λ (l : List Held). second.0 ++ l) (AreFileReports-unique (file + 1) more bytes flocks first.1 second.1 first.4 second.4)
    ∙ sym second.2

-- there is one report of all files at most
pub IsHeldReport-unique : LocksHaveOneReport
unfolding IsHeldReport
IsHeldReport-unique bytes flocks report other first second = AreFileReports-unique 0 64 bytes flocks report other first second
