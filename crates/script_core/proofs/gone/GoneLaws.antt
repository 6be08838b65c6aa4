-- Where the locks at some places go and no other owner loses its own, the difference of the reports is the report of those places.
use Rattle.script_core.proofs.Common.{arith, ◌≡◌, ◌≢◌, ℕ, zero, suc, ◌+◌, ◌<◌, ◌≤◌, ◌⊎◌, inl, inr, not, Bool, true, false, IsTrue, IsFalse, if◌then◌else◌, Option, Some, None, List, All, Any, refl, sym, ap, ◌∙◌, subst, eq-eqb, common_steps, list_any, cases_lt, eqb-true, false_from_ne_true, All-append, All-nil}
use Rattle.script_core.proofs.Common.{Mode, Held, Owner, Description, mode_in, flock_mode_in, ByteModes, FlockModes, LocksHaveOneReport, is_same_owner, IsFileReport, AreFileReports, IsHeldReport, IsFlockLine, State}
use Rattle.std.proofs.lemmas.List.Elements.{All-weaker}
use Rattle.std.proofs.lemmas.List.Folds.{Any-from_list_any, list_any-from_Any}
use Rattle.script_core.specs.Losses.{is_at, gone}
use Rattle.script_core.proofs.DeadlockLocksLemmas.{any_left, any_right, report_has}
use Rattle.script_core.proofs.explained.ReportPlaceLemmas.{PlaceTest, IsByteLine, bytes_at, flocks_at, report_left, reports_agree}

-- the locks at these places are gone, and each owner that had one at another place still has one there, on each byte where it had one
pub record Leaves (test : PlaceTest) (S T : State) : Type 0 where
  pub bytes_gone : (file : ℕ) (owner : Owner) (byte : ℕ) → test false file owner ≡ true → mode_in T.changes file owner byte ≡ None
  pub bytes_kept : (file : ℕ) (owner : Owner) (byte : ℕ) → test false file owner ≡ false → mode_in S.changes file owner byte ≢ None
      → mode_in T.changes file owner byte ≢ None
  pub flocks_gone : (file d : ℕ) → test true file (Description d) ≡ true → flock_mode_in T.flock_changes file d ≡ None
  pub flocks_kept : (file d : ℕ) → test true file (Description d) ≡ false → flock_mode_in S.flock_changes file d ≢ None
      → flock_mode_in T.flock_changes file d ≢ None

-- ---- what a report has

-- a line says a byte lock or a flock lock
abbrev IsLine : (ℕ → ByteModes) → (ℕ → FlockModes) → Held → Type 0
IsLine bytes flocks line = IsByteLine line.file (bytes line.file) line ⊎ IsFlockLine line.file (flocks line.file) line

file_lines : (file : ℕ) (bytes : ℕ → ByteModes) (flocks : ℕ → FlockModes) (report : List Held) → IsFileReport file (bytes file) (flocks file) report
    → All (IsLine bytes flocks) report
file_lines file bytes flocks report h =
    subst (All (IsLine bytes flocks)) (sym h.is)
    (All-append (IsLine bytes flocks) h.byte_locks h.flock_locks
    (All-weaker (IsByteLine file (bytes file)) (IsLine bytes flocks)
    (λ x line. inl (subst (λ (f : ℕ). IsByteLine f (bytes f) x) (sym line.0) line)) h.byte_locks h.are_bytes.each)
    (All-weaker (IsFlockLine file (flocks file)) (IsLine bytes flocks)
    (λ x line. inr (subst (λ (f : ℕ). IsFlockLine f (flocks f) x) (sym line.same_file) line)) h.flock_locks h.are_flocks.each))

files_lines : (file more : ℕ) (bytes : ℕ → ByteModes) (flocks : ℕ → FlockModes) (report : List Held) → AreFileReports file more bytes flocks report
    → All (IsLine bytes flocks) report
files_lines file zero bytes flocks report h = subst (All (IsLine bytes flocks)) (sym h) (All-nil (IsLine bytes flocks))
files_lines file (suc more) bytes flocks report h =
    subst (All (IsLine bytes flocks)) (sym h.2)
    (All-append (IsLine bytes flocks) h.0 h.1 (file_lines file bytes flocks h.0 h.3) (files_lines (file + 1) more bytes flocks h.1 h.4))

report_lines : (bytes : ℕ → ByteModes) (flocks : ℕ → FlockModes) (report : List Held) → IsHeldReport bytes flocks report → All (IsLine bytes flocks) report
unfolding IsHeldReport
report_lines bytes flocks report h = files_lines 0 64 bytes flocks report h

-- ---- whether a report has a line at a place

same_owner : (owner other : Owner) → owner ≡ other → is_same_owner owner other ≡ true
same_owner owner other same = grind (arith, common_steps, eq-eqb)

pub one_owner : (owner other : Owner) → is_same_owner owner other ≡ true → owner ≡ other
one_owner owner other same = grind (arith, common_steps, eqb-true)

at_bytes : (f : ℕ) (owner : Owner) (x : Held) → IsFalse x.whole → x.file ≡ f → x.owner ≡ owner → is_at false f owner x ≡ true
at_bytes f owner x low file same = grind (arith, common_steps, eq-eqb, same_owner)

at_flocks : (f d : ℕ) (x : Held) → IsTrue x.whole → x.file ≡ f → x.owner ≡ Description d → is_at true f (Description d) x ≡ true
at_flocks f d x whole file same = grind (arith, common_steps, eq-eqb, same_owner)

-- the line is at the place
record StandsAt (whole : Bool) (f : ℕ) (owner : Owner) (x : Held) : Type 0 where
  on : x.whole ≡ whole
  file : x.file ≡ f
  of : x.owner ≡ owner

stands_at : (whole : Bool) (f : ℕ) (owner : Owner) (x : Held) → is_at whole f owner x ≡ true → StandsAt whole f owner x
stands_at whole f owner x is = grind (arith, common_steps, eqb-true, one_owner)

any_weaker : {X : Type 0} (P Q : X → Type 0) (xs : List X) → ((x : X) → P x → Q x) → Any P xs → Any Q xs
any_weaker P Q xs f (k, x, within, is, holds) = (k, x, within, is, f x holds)

any_both : {X : Type 0} (E P : X → Type 0) (xs : List X) → All E xs → Any P xs → Any (λ x. E x × P x) xs
any_both E P xs each (k, x, within, is, holds) = (k, x, within, is, (subst E is (each k x within), holds))

-- of a flock lock that is held there is a line
file_flock : (file : ℕ) (bytes : ByteModes) (flocks : FlockModes) (report : List Held) (d : ℕ) (mode : Mode) → IsFileReport file bytes flocks report
    → flocks d ≡ Some mode → Any (λ x. is_at true file (Description d) x ≡ true) report
file_flock file bytes flocks report d mode h is =
    subst (Any (λ x. is_at true file (Description d) x ≡ true)) (sym h.is)
    (any_right (λ x. is_at true file (Description d) x ≡ true) h.byte_locks h.flock_locks
    (any_weaker (λ x. IsFlockLine file flocks x × ((x.owner ≡ Description d) × (x.mode ≡ mode))) (λ x. is_at true file (Description d) x ≡ true) h.flock_locks
    (λ x both. at_flocks file d x both.0.whole both.0.same_file both.1.0)
    (any_both (IsFlockLine file flocks) (λ x. (x.owner ≡ Description d) × (x.mode ≡ mode)) h.flock_locks h.are_flocks.each (h.are_flocks.every d mode is))))

files_flock : (file more : ℕ) (bytes : ℕ → ByteModes) (flocks : ℕ → FlockModes) (report : List Held) (f d : ℕ) (mode : Mode)
    → AreFileReports file more bytes flocks report → file ≤ f → f < file + more → flocks f d ≡ Some mode
    → Any (λ x. is_at true f (Description d) x ≡ true) report
files_flock file zero bytes flocks report f d mode h from below is = absurd (omega (arith, from, below))
files_flock file (suc more) bytes flocks report f d mode h from below is = elim (cases_lt file f) [
  | inl later ↦
      subst (Any (λ x. is_at true f (Description d) x ≡ true)) (sym h.2)
      (any_right (λ x. is_at true f (Description d) x ≡ true) h.0 h.1
      (files_flock (file + 1) more bytes flocks h.1 f d mode h.4 (omega (arith, later)) (omega (arith, below)) is))
  | inr upto ↦
      let here : file ≡ f = omega (arith, from, upto) in
      let own : IsFileReport f (bytes f) (flocks f) h.0 = subst (λ (n : ℕ). IsFileReport n (bytes n) (flocks n) h.0) here h.3 in
      subst (Any (λ x. is_at true f (Description d) x ≡ true)) (sym h.2)
      (any_left (λ x. is_at true f (Description d) x ≡ true) h.0 h.1 (file_flock f (bytes f) (flocks f) h.0 d mode own is))
]

flock_told : (bytes : ℕ → ByteModes) (flocks : ℕ → FlockModes) (report : List Held) (f d : ℕ) (mode : Mode) → IsHeldReport bytes flocks report → f < 64
    → flocks f d ≡ Some mode → list_any (is_at true f (Description d)) report ≡ true
unfolding IsHeldReport
flock_told bytes flocks report f d mode h low is =
    list_any-from_Any (is_at true f (Description d)) report (files_flock 0 64 bytes flocks report f d mode h (omega arith) (omega (arith, low)) is)

bytes_told : (bytes : ℕ → ByteModes) (flocks : ℕ → FlockModes) (report : List Held) (f : ℕ) (owner : Owner) (byte : ℕ) (mode : Mode)
    → IsHeldReport bytes flocks report → f < 64 → bytes f owner byte ≡ Some mode → list_any (is_at false f owner) report ≡ true
bytes_told bytes flocks report f owner byte mode h low is =
    list_any-from_Any (is_at false f owner) report
    (any_weaker _ (λ x. is_at false f owner x ≡ true) report (λ x says. at_bytes f owner x says.0 says.1 says.2)
    (report_has bytes flocks report f owner byte mode h low is))

-- and there is none where the owner has none
no_bytes_told : (bytes : ℕ → ByteModes) (flocks : ℕ → FlockModes) (report : List Held) (f : ℕ) (owner : Owner) → IsHeldReport bytes flocks report
    → ((byte : ℕ) → bytes f owner byte ≡ None) → list_any (is_at false f owner) report ≡ false
no_bytes_told bytes flocks report f owner h none = false_from_ne_true (list_any (is_at false f owner) report) (λ told. refuted told)
  where
    by_line : (x : Held) → StandsAt false f owner x → IsLine bytes flocks x → ⊥
    by_line x at (inl line) =
        let held : bytes x.file x.owner x.span.first ≡ Some x.mode = line.2.constant x.span.first line.2.covered in
        let here : bytes f owner x.span.first ≡ Some x.mode =
        subst (λ (o : Owner). bytes f o x.span.first ≡ Some x.mode) at.of (subst (λ (n : ℕ). bytes n x.owner x.span.first ≡ Some x.mode) at.file held) in
        let bad : None ≡ Some x.mode = sym (none x.span.first) ∙ here in cc
    by_line x at (inr line) = let on = at.on in let whole = line.whole in cc

    refuted : list_any (is_at false f owner) report ≡ true → ⊥
    refuted told =
        let found = Any-from_list_any (is_at false f owner) report told in
        by_line found.1 (stands_at false f owner found.1 found.4) (subst (IsLine bytes flocks) found.3 (report_lines bytes flocks report h found.0 found.1 found.2))

no_flock_told : (bytes : ℕ → ByteModes) (flocks : ℕ → FlockModes) (report : List Held) (f d : ℕ) → IsHeldReport bytes flocks report
    → flocks f d ≡ None → list_any (is_at true f (Description d)) report ≡ false
no_flock_told bytes flocks report f d h none = false_from_ne_true (list_any (is_at true f (Description d)) report) (λ told. refuted told)
  where
    by_line : (x : Held) → StandsAt true f (Description d) x → IsLine bytes flocks x → ⊥
    by_line x at (inl line) = let on = at.on in let low = line.1 in cc
    by_line x at (inr line) =
        let same : line.description ≡ d = (let both : Description line.description ≡ Description d = sym line.owner ∙ at.of in cc) in
        let here : flocks f d ≡ Some x.mode =
        subst (λ (e : ℕ). flocks f e ≡ Some x.mode) same (subst (λ (n : ℕ). flocks n line.description ≡ Some x.mode) at.file line.mode) in
        let bad : None ≡ Some x.mode = sym none ∙ here in cc

    refuted : list_any (is_at true f (Description d)) report ≡ true → ⊥
    refuted told =
        let found = Any-from_list_any (is_at true f (Description d)) report told in
        by_line found.1 (stands_at true f (Description d) found.1 found.4)
        (subst (IsLine bytes flocks) found.3 (report_lines bytes flocks report h found.0 found.1 found.2))

-- ---- the difference

-- the places at which the report has no line
abbrev absent : List Held → PlaceTest
absent after whole file owner = not (list_any (is_at whole file owner) after)

agree : (one other : Bool) (found : Option Mode) → (found ≢ None → one ≡ other) → (if one then found else None) ≡ (if other then found else None)
agree one other None same = grind (arith, common_steps)
agree one other (Some mode) same = let both = same (λ is. let bad : Some mode ≡ None = is in cc) in grind (arith, common_steps)

pub some_of : (found : Option Mode) → found ≢ None → (mode : Mode) × (found ≡ Some mode)
some_of None is = absurd (is refl)
some_of (Some mode) is = (mode, refl)

bytes_differ : (test : PlaceTest) (S T : State) (after : List Held) → Leaves test S T
    → IsHeldReport (mode_in T.changes) (flock_mode_in T.flock_changes) after → (f : ℕ) → f < 64 → (owner : Owner) (byte : ℕ)
    → bytes_at test (mode_in S.changes) f owner byte ≡ bytes_at (absent after) (mode_in S.changes) f owner byte
bytes_differ test S T after leaves h f low owner byte =
    agree (test false f owner) (absent after false f owner) (mode_in S.changes f owner byte) (λ held. by_test (test false f owner) refl held)
  where
    by_test : (b : Bool) → test false f owner ≡ b → mode_in S.changes f owner byte ≢ None → test false f owner ≡ absent after false f owner
    by_test true is held =
        let none = no_bytes_told (mode_in T.changes) (flock_mode_in T.flock_changes) after f owner h (λ k. leaves.bytes_gone f owner k is) in
        is ∙ sym (ap not none)
    by_test false is held =
        let some = some_of (mode_in T.changes f owner byte) (leaves.bytes_kept f owner byte is held) in
        let told = bytes_told (mode_in T.changes) (flock_mode_in T.flock_changes) after f owner byte some.0 h low some.1 in
        is ∙ sym (ap not told)

flocks_differ : (test : PlaceTest) (S T : State) (after : List Held) → Leaves test S T
    → IsHeldReport (mode_in T.changes) (flock_mode_in T.flock_changes) after → (f : ℕ) → f < 64 → (d : ℕ)
    → flocks_at test (flock_mode_in S.flock_changes) f d ≡ flocks_at (absent after) (flock_mode_in S.flock_changes) f d
flocks_differ test S T after leaves h f low d =
    agree (test true f (Description d)) (absent after true f (Description d)) (flock_mode_in S.flock_changes f d)
    (λ held. by_test (test true f (Description d)) refl held)
  where
    by_test : (b : Bool) → test true f (Description d) ≡ b → flock_mode_in S.flock_changes f d ≢ None
        → test true f (Description d) ≡ absent after true f (Description d)
    by_test true is held =
        let none = no_flock_told (mode_in T.changes) (flock_mode_in T.flock_changes) after f d h (leaves.flocks_gone f d is) in
        is ∙ sym (ap not none)
    by_test false is held =
        let some = some_of (flock_mode_in T.flock_changes f d) (leaves.flocks_kept f d is held) in
        let told = flock_told (mode_in T.changes) (flock_mode_in T.flock_changes) after f d some.0 h low some.1 in
        is ∙ sym (ap not told)

-- the locks at the places that are left are the difference of the reports
pub gone_is : LocksHaveOneReport → (test : PlaceTest) (S T : State) (before after locks : List Held) → Leaves test S T
    → IsHeldReport (mode_in S.changes) (flock_mode_in S.flock_changes) before
    → IsHeldReport (mode_in T.changes) (flock_mode_in T.flock_changes) after
    → IsHeldReport (bytes_at test (mode_in S.changes)) (flocks_at test (flock_mode_in S.flock_changes)) locks → locks ≡ gone before after
gone_is one test S T before after locks leaves first second h =
    one (bytes_at (absent after) (mode_in S.changes)) (flocks_at (absent after) (flock_mode_in S.flock_changes)) locks (gone before after)
    (reports_agree _ _ _ _ locks (bytes_differ test S T after leaves second) (flocks_differ test S T after leaves second) h)
    (report_left (absent after) (mode_in S.changes) (flock_mode_in S.flock_changes) before first)
