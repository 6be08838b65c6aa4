-- The locks that a release leaves are those of the definition's state: for `Machine::close_fd`, `Machine::dup_to`, `Machine::end` and
-- `Machine::fork`.
use Rattle.lock_manager.proofs.Common.{common_steps, ℕ, ◌≡◌, ◌<◌, ◌==◌, refl, sym, ◌∙◌, ap, subst, List, [], ◌∷◌, ◌++◌, Some, None, Option, Bool, true, false, get_or, arith, Contains, eq-eqb, ◌&&◌, ◌||◌, if◌then◌else◌, option_map, list_any, eqb-true, cases_lt, and_parts, same_Some, Any-from_list_any, list_any_at}
use Rattle.lock_manager.proofs.Common.{OFFMAX, Mode, is_covered, Owner, Process, Description, is_same_owner, Change, FlockChange, whole_file, mode_from, mode_in, flock_mode_from, flock_mode_in, Descriptors, OpenFileDescription, description_numbered, Released, Locks, State, with_released, IsOpenOn, AreWithinFiles, is_one_of, is_released, ReleasesLocks}
use Rattle.lock_manager.proofs.kept.BookLemmas.{mode_from-append, flock_mode_from-append}
use Rattle.std.specs.List.{cons_option}
use Rattle.std.proofs.lemmas.Bool.{le-leb, and_right}
use Rattle.lock_manager.specs.DescriptorCalls.{process_releases, description_releases, flock_releases}
use Rattle.lock_manager.specs.DescriptionLocks.{AreOfOpenDescriptions}
use Rattle.lock_manager.proofs.kept.ClosingLemmas.{Closing, one_of, is_member, file_released}

and_false : (a b : Bool) → (a && false && b) ≡ false
and_false a b = grind (arith, common_steps)

-- whether the description is of this file
abbrev is_of_file : Option OpenFileDescription → ℕ → Bool
is_of_file None f = false
is_of_file (Some opened) f = opened.file == f

-- whether the changes for these descriptions remove the owner's locks from the file
abbrev removes_on : List OpenFileDescription → List ℕ → ℕ → Owner → Bool
removes_on opened descriptions f o = list_any (λ e. is_of_file (description_numbered opened e) f && is_same_owner (Description e) o) descriptions

-- what the changes for the files of the process leave
process_modes : (p : ℕ) (files : List ℕ) (before : Option Mode) (f : ℕ) (o : Owner) (byte : ℕ)
    → mode_from before (process_releases p files) f o byte
    ≡ (if is_one_of files f && is_same_owner (Process p) o && is_covered whole_file byte then None else before)
process_modes p [] before f o byte = refl
process_modes p (file ∷ files) before f o byte =
    let now = if (file == f) && is_same_owner (Process p) o && is_covered whole_file byte then None else before in
    grind (arith, common_steps, process_modes p files now f o byte)

-- what the change for one description leaves, where there is such a description, and the changes for others
one_description : (x : Option OpenFileDescription) (e : ℕ) (rest : List Change) (removed : Bool) (before : Option Mode) (f : ℕ) (o : Owner) (byte : ℕ)
    → ((mode : Option Mode) → mode_from mode rest f o byte ≡ (if removed && is_covered whole_file byte then None else mode))
    → mode_from before (cons_option (option_map (λ x. record { file = x.file; owner = Description e; span = whole_file; mode = None }) x) rest) f o byte
    ≡ (if ((is_of_file x f && is_same_owner (Description e) o) || removed) && is_covered whole_file byte then None else before)
one_description x e rest removed before f o byte h = grind (arith, common_steps)

-- what the changes for the descriptions leave
description_modes : (opened : List OpenFileDescription) (descriptions : List ℕ) (before : Option Mode) (f : ℕ) (o : Owner) (byte : ℕ)
    → mode_from before (description_releases opened descriptions) f o byte
    ≡ (if removes_on opened descriptions f o && is_covered whole_file byte then None else before)
description_modes opened [] before f o byte = refl
description_modes opened (e ∷ es) before f o byte = grind (arith, common_steps, one_description, description_modes opened es)

-- the same of flock locks
one_flock : (x : Option OpenFileDescription) (e : ℕ) (rest : List FlockChange) (removed : Bool) (before : Option Mode) (f d : ℕ)
    → ((mode : Option Mode) → flock_mode_from mode rest f d ≡ (if removed then None else mode))
    → flock_mode_from before (cons_option (option_map (λ x. record { file = x.file; description = e; mode = None }) x) rest) f d
    ≡ (if (is_of_file x f && (e == d)) || removed then None else before)
one_flock x e rest removed before f d h = grind (arith, common_steps)

flock_modes : (opened : List OpenFileDescription) (descriptions : List ℕ) (before : Option Mode) (f d : ℕ)
    → flock_mode_from before (flock_releases opened descriptions) f d ≡ (if removes_on opened descriptions f (Description d) then None else before)
flock_modes opened [] before f d = refl
flock_modes opened (e ∷ es) before f d = grind (arith, common_steps, one_flock, flock_modes opened es)

-- no change for a description is one of a process
removes_no_process : (opened : List OpenFileDescription) (descriptions : List ℕ) (f q : ℕ) → removes_on opened descriptions f (Process q) ≡ false
removes_no_process opened [] f q = refl
removes_no_process opened (e ∷ es) f q =
    ap (λ b. b || removes_on opened es f (Process q)) (and_right (is_of_file (description_numbered opened e) f) false refl) ∙ removes_no_process opened es f q

-- past the largest offset, where there is nothing, it doesn't matter what is removed
whole_or_not : (whole removed : Bool) (mode : Option Mode) → (whole ≡ false → mode ≡ None)
    → (if removed then None else mode) ≡ (if removed && whole then None else mode)
whole_or_not whole removed mode h = grind (arith, common_steps)

-- two removals agree where the one that removes more removes only what isn't there
agree : (more less : Bool) (mode : Option Mode) → (more ≡ true → less ≡ false → mode ≡ None) → (less ≡ true → more ≡ true)
    → (if more then None else mode) ≡ (if less then None else mode)
agree more less mode h h2 = grind (arith, common_steps)

file_of : (x : Option OpenFileDescription) (f : ℕ) → is_of_file x f ≡ true → option_map (λ opened. opened.file) x ≡ Some f
file_of x f is = grind (arith, common_steps, eqb-true)

-- where a description that was closed for good is of the file, its locks are removed from it
removed_there : (D E : Descriptors) (p : ℕ) (released : Released) (f d : ℕ) → Closing D E p released → IsOpenOn D f d → is_one_of released.descriptions d ≡ true
    → removes_on E.descriptions released.descriptions f (Description d) ≡ true
removed_there D E p released f d closing is told = grind (arith, common_steps, is_member, list_any_at, eq-eqb, same_Some)

-- and where they are removed, both it and its file are released
only_there : (D E : Descriptors) (p : ℕ) (released : Released) (f d : ℕ) → Closing D E p released
    → removes_on E.descriptions released.descriptions f (Description d) ≡ true
    → (is_one_of released.files f && is_one_of released.descriptions d) ≡ true
only_there D E p released f d closing removed =
    let any = Any-from_list_any (λ e. is_of_file (description_numbered E.descriptions e) f && (e == d)) released.descriptions removed in
    let e = any.1 in
    let tests : (is_of_file (description_numbered E.descriptions e) f ≡ true) × ((e == d) ≡ true) =
    and_parts (is_of_file (description_numbered E.descriptions e) f) (e == d) any.4 in
    let same : e ≡ d = eqb-true e d tests.1 in
    let told : Contains released.descriptions d = (any.0, any.2, subst (λ n. get_or released.descriptions any.0 n ≡ n) same any.3) in
    let closed = (closing.are_released.descriptions.each d).0 told in
    let here : option_map (λ opened. opened.file) (description_numbered D.descriptions d) ≡ Some f =
    ap (λ ds. option_map (λ (opened : OpenFileDescription). opened.file) (description_numbered ds d)) (sym closing.descriptions)
    ∙ file_of (description_numbered E.descriptions d) f (subst (λ n. is_of_file (description_numbered E.descriptions n) f ≡ true) same tests.0) in
    let file : is_one_of released.files f ≡ true = file_released D E p released f d closing (record { is_open = closed.0; of_file = here }) closed.1 in
    rw file (one_of released.descriptions d told)

-- a byte that the whole file doesn't cover
outside_file : (byte : ℕ) → is_covered whole_file byte ≡ false → OFFMAX < byte
outside_file byte outside = grind (arith, common_steps, cases_lt, le-leb)

-- the byte locks after the release are those of the state
pub bytes_after : (old new : Locks) (S : State) (E : Descriptors) (p : ℕ) (released : Released)
    → ((f : ℕ) (o : Owner) (byte : ℕ) → old.bytes f o byte ≡ mode_in S.changes f o byte)
    → AreOfOpenDescriptions S.descriptors old → AreWithinFiles old → Closing S.descriptors E p released
    → ReleasesLocks old new p released.files released.descriptions
    → (f : ℕ) (o : Owner) (byte : ℕ) → new.bytes f o byte ≡ mode_in (with_released S E p released).changes f o byte
bytes_after old new S E p released shown owned within closing releases f o byte =
    releases.bytes f o byte
    ∙ at o
    ∙ sym (description_modes E.descriptions released.descriptions (mode_from (old.bytes f o byte) (process_releases p released.files) f o byte) f o byte)
    ∙ ap (λ m. mode_from (mode_from m (process_releases p released.files) f o byte) (description_releases E.descriptions released.descriptions) f o byte) (shown f o byte)
    ∙ ap (λ m. mode_from m (description_releases E.descriptions released.descriptions) f o byte) (sym (mode_from-append None S.changes (process_releases p released.files) f o byte))
    ∙ sym (mode_from-append None (S.changes ++ process_releases p released.files) (description_releases E.descriptions released.descriptions) f o byte)
  where
    past : (o : Owner) → is_covered whole_file byte ≡ false → old.bytes f o byte ≡ None
    past o outside = within f o byte (outside_file byte outside)

    spare : (d : ℕ) → (is_one_of released.files f && is_one_of released.descriptions d) ≡ true
        → removes_on E.descriptions released.descriptions f (Description d) ≡ false
        → old.bytes f (Description d) byte ≡ None
    spare d told kept = owned.bytes f d
        (λ is. let removed = removed_there S.descriptors E p released f d closing is
        (and_parts (is_one_of released.files f) (is_one_of released.descriptions d) told).1 in cc)
        byte

    at : (o : Owner) → (if is_one_of released.files f && is_released p released.descriptions o then None else old.bytes f o byte)
        ≡ (if removes_on E.descriptions released.descriptions f o && is_covered whole_file byte then None
        else mode_from (old.bytes f o byte) (process_releases p released.files) f o byte)
    at (Process q) =
        let m = old.bytes f (Process q) byte in
        let whole = is_covered whole_file byte in
        whole_or_not whole (is_one_of released.files f && (p == q)) m (past (Process q))
        ∙ sym (process_modes p released.files m f (Process q) byte)
        ∙ ap (λ b. if b && whole then None else mode_from m (process_releases p released.files) f (Process q) byte)
        (sym (removes_no_process E.descriptions released.descriptions f q))
    at (Description d) =
        let m = old.bytes f (Description d) byte in
        let whole = is_covered whole_file byte in
        let removed = removes_on E.descriptions released.descriptions f (Description d) in
        agree (is_one_of released.files f && is_one_of released.descriptions d) removed m (spare d) (only_there S.descriptors E p released f d closing)
        ∙ whole_or_not whole removed m (past (Description d))
        ∙ ap (λ k. if removed && whole then None else k)
        (sym (process_modes p released.files m f (Description d) byte ∙ ap (λ b. if b then None else m) (and_false (is_one_of released.files f) whole)))

-- and so are the flock locks
pub flocks_after : (old new : Locks) (S : State) (E : Descriptors) (p : ℕ) (released : Released)
    → ((f d : ℕ) → old.flocks f d ≡ flock_mode_in S.flock_changes f d)
    → AreOfOpenDescriptions S.descriptors old → Closing S.descriptors E p released → ReleasesLocks old new p released.files released.descriptions
    → (f d : ℕ) → new.flocks f d ≡ flock_mode_in (with_released S E p released).flock_changes f d
flocks_after old new S E p released shown owned closing releases f d =
    releases.flocks f d
    ∙ agree (is_one_of released.files f && is_one_of released.descriptions d) (removes_on E.descriptions released.descriptions f (Description d)) (old.flocks f d)
    spare (only_there S.descriptors E p released f d closing)
    ∙ sym (flock_modes E.descriptions released.descriptions (old.flocks f d) f d)
    ∙ ap (λ m. flock_mode_from m (flock_releases E.descriptions released.descriptions) f d) (shown f d)
    ∙ sym (flock_mode_from-append None S.flock_changes (flock_releases E.descriptions released.descriptions) f d)
  where
    spare : (is_one_of released.files f && is_one_of released.descriptions d) ≡ true → removes_on E.descriptions released.descriptions f (Description d) ≡ false
        → old.flocks f d ≡ None
    spare told kept = owned.flocks f d
        (λ is. let removed = removed_there S.descriptors E p released f d closing is
        (and_parts (is_one_of released.files f) (is_one_of released.descriptions d) told).1 in cc)
