-- The closing of descriptors removes the locks at the places that it takes, and no others.
use Rattle.script_core.proofs.Common.{arith, ◌≡◌, ℕ, zero, suc, ◌+◌, ◌<◌, ◌≤◌, ◌==◌, ◌&&◌, ◌||◌, inl, inr, not, Bool, true, false, if◌then◌else◌, Option, Some, None, option_map, List, [], ◌∷◌, ◌++◌, get_or, refl, sym, ap, ◌∙◌, subst, eq-eqb, common_steps, option_and_then, list_any, and_from, and_parts, eqb-true, false_from_ne_true, same_Some}
use Rattle.script_core.proofs.Common.{OFFMAX, Mode, Look, Descriptors, OpenFileDescription, description_numbered, look_at, look_of, Released, AreReleased, Owner, Process, Description, is_same_owner, Change, FlockChange, whole_file, sets_byte, mode_from, mode_in, flock_mode_from, flock_mode_in, State, with_released, process_releases, description_releases, flock_releases, Closing, closes, is_such, any_open, stays_on, keeps, is_alive, stays_open}
use Rattle.std.proofs.Common.{Contains}
use Rattle.std.specs.List.{cons_option}
use Rattle.std.proofs.lemmas.Bool.{and_right, le-leb, or_cases}
use Rattle.std.proofs.lemmas.List.Folds.{Any-from_list_any, list_any_at}
use Rattle.range_core.specs.Changes.{is_covered}
use Rattle.fd_table.specs.Descriptors.{IsOpen}
use Rattle.lock_manager.specs.LockReleases.{is_one_of}
use Rattle.script_core.proofs.LossLemmas.{found_open, somebody, keeps_it}
use Rattle.script_core.proofs.gone.HolderMoves.{AreHeld}

-- ---- what the changes of a release leave

mode_from-append : (before : Option Mode) (xs ys : List Change) (f : ℕ) (o : Owner) (byte : ℕ)
    → mode_from before (xs ++ ys) f o byte ≡ mode_from (mode_from before xs f o byte) ys f o byte
mode_from-append before [] ys f o byte = refl
mode_from-append before (x ∷ xs) ys f o byte = mode_from-append (if sets_byte x f o byte then x.mode else before) xs ys f o byte

flock_mode_from-append : (before : Option Mode) (xs ys : List FlockChange) (f d : ℕ)
    → flock_mode_from before (xs ++ ys) f d ≡ flock_mode_from (flock_mode_from before xs f d) ys f d
flock_mode_from-append before [] ys f d = refl
flock_mode_from-append before (x ∷ xs) ys f d =
    flock_mode_from-append (if (x.file == f) && (x.description == d) then x.mode else before) xs ys f d

-- whether the description is of this file
abbrev is_of_file : Option OpenFileDescription → ℕ → Bool
is_of_file None f = false
is_of_file (Some opened) f = opened.file == f

-- whether the changes for these descriptions remove the owner's locks from the file
abbrev removes_on : List OpenFileDescription → List ℕ → ℕ → Owner → Bool
removes_on opened descriptions f o = list_any (λ e. is_of_file (description_numbered opened e) f && is_same_owner (Description e) o) descriptions

process_modes : (p : ℕ) (files : List ℕ) (before : Option Mode) (f : ℕ) (o : Owner) (byte : ℕ)
    → mode_from before (process_releases p files) f o byte
    ≡ (if is_one_of files f && is_same_owner (Process p) o && is_covered whole_file byte then None else before)
process_modes p [] before f o byte = refl
process_modes p (file ∷ files) before f o byte =
    let now = if (file == f) && is_same_owner (Process p) o && is_covered whole_file byte then None else before in
    grind (arith, common_steps, process_modes p files now f o byte)

one_description : (x : Option OpenFileDescription) (e : ℕ) (rest : List Change) (removed : Bool) (before : Option Mode) (f : ℕ) (o : Owner) (byte : ℕ)
    → ((mode : Option Mode) → mode_from mode rest f o byte ≡ (if removed && is_covered whole_file byte then None else mode))
    → mode_from before (cons_option (option_map (λ x. record { file = x.file; owner = Description e; span = whole_file; mode = None }) x) rest) f o byte
    ≡ (if ((is_of_file x f && is_same_owner (Description e) o) || removed) && is_covered whole_file byte then None else before)
one_description x e rest removed before f o byte h = grind (arith, common_steps)

description_modes : (opened : List OpenFileDescription) (descriptions : List ℕ) (before : Option Mode) (f : ℕ) (o : Owner) (byte : ℕ)
    → mode_from before (description_releases opened descriptions) f o byte
    ≡ (if removes_on opened descriptions f o && is_covered whole_file byte then None else before)
description_modes opened [] before f o byte = refl
description_modes opened (e ∷ es) before f o byte = grind (arith, common_steps, one_description, description_modes opened es)

one_flock : (x : Option OpenFileDescription) (e : ℕ) (rest : List FlockChange) (removed : Bool) (before : Option Mode) (f d : ℕ)
    → ((mode : Option Mode) → flock_mode_from mode rest f d ≡ (if removed then None else mode))
    → flock_mode_from before (cons_option (option_map (λ x. record { file = x.file; description = e; mode = None }) x) rest) f d
    ≡ (if (is_of_file x f && (e == d)) || removed then None else before)
one_flock x e rest removed before f d h = grind (arith, common_steps)

flock_modes : (opened : List OpenFileDescription) (descriptions : List ℕ) (before : Option Mode) (f d : ℕ)
    → flock_mode_from before (flock_releases opened descriptions) f d ≡ (if removes_on opened descriptions f (Description d) then None else before)
flock_modes opened [] before f d = refl
flock_modes opened (e ∷ es) before f d = grind (arith, common_steps, one_flock, flock_modes opened es)

removes_no_process : (opened : List OpenFileDescription) (descriptions : List ℕ) (f q : ℕ) → removes_on opened descriptions f (Process q) ≡ false
removes_no_process opened [] f q = refl
removes_no_process opened (e ∷ es) f q =
    ap (λ (b : Bool). b || removes_on opened es f (Process q)) (and_right (is_of_file (description_numbered opened e) f) false refl) ∙ removes_no_process opened es f q

-- whether the release removes the owner's locks from the file
abbrev pub removes : Descriptors → ℕ → Released → ℕ → Owner → Bool
removes E p released file (Process q) = is_one_of released.files file && (p == q)
removes E p released file (Description d) = removes_on E.descriptions released.descriptions file (Description d)

no_others : (one : Bool) (before : Option Mode) (covered : Bool) → (if one && false && covered then None else before) ≡ before
no_others one before covered = grind (arith, common_steps)

in_any_order : (one other covered : Bool) (found : Option Mode) → (if one && other && covered then None else found) ≡ (if (one && other) && covered then None else found)
in_any_order one other covered found = grind (arith, common_steps)

-- the mode behind the release
pub released_mode : (S : State) (E : Descriptors) (p : ℕ) (released : Released) (file : ℕ) (owner : Owner) (byte : ℕ)
    → mode_in (with_released S E p released).changes file owner byte
    ≡ (if removes E p released file owner && is_covered whole_file byte then None else mode_in S.changes file owner byte)
released_mode S E p released file owner byte =
    mode_from-append None (S.changes ++ process_releases p released.files) (description_releases E.descriptions released.descriptions) file owner byte
    ∙ ap (λ (m : Option Mode). mode_from m (description_releases E.descriptions released.descriptions) file owner byte)
    (mode_from-append None S.changes (process_releases p released.files) file owner byte ∙ process_modes p released.files (mode_in S.changes file owner byte) file owner byte)
    ∙ description_modes E.descriptions released.descriptions _ file owner byte
    ∙ by_owner owner (mode_in S.changes file owner byte)
  where
    by_owner : (o : Owner) (found : Option Mode)
        → (if removes_on E.descriptions released.descriptions file o && is_covered whole_file byte then None
        else if is_one_of released.files file && is_same_owner (Process p) o && is_covered whole_file byte then None else found)
        ≡ (if removes E p released file o && is_covered whole_file byte then None else found)
    by_owner (Process q) found =
        ap (λ (b : Bool). if b && is_covered whole_file byte then None
        else if is_one_of released.files file && (p == q) && is_covered whole_file byte then None else found)
        (removes_no_process E.descriptions released.descriptions file q) ∙ in_any_order (is_one_of released.files file) (p == q) (is_covered whole_file byte) found
    by_owner (Description d) found =
        ap (λ (m : Option Mode). if removes_on E.descriptions released.descriptions file (Description d) && is_covered whole_file byte then None else m)
        (no_others (is_one_of released.files file) found (is_covered whole_file byte))

pub released_flock : (S : State) (E : Descriptors) (p : ℕ) (released : Released) (file d : ℕ)
    → flock_mode_in (with_released S E p released).flock_changes file d
    ≡ (if removes E p released file (Description d) then None else flock_mode_in S.flock_changes file d)
released_flock S E p released file d =
    flock_mode_from-append None S.flock_changes (flock_releases E.descriptions released.descriptions) file d
    ∙ flock_modes E.descriptions released.descriptions (flock_mode_in S.flock_changes file d) file d

pub covered : (byte : ℕ) → byte ≤ OFFMAX → is_covered whole_file byte ≡ true
covered byte low = grind (arith, common_steps, le-leb)

-- ---- what a descriptor refers to

-- the description's file, where it was made
abbrev pub IsOnFile : Descriptors → ℕ → ℕ → Type 0
IsOnFile D d file = option_map (λ opened. opened.file) (description_numbered D.descriptions d) ≡ Some file

look_by_opened : (D : Descriptors) (d : ℕ) (found : Option OpenFileDescription) (look : Look) → description_numbered D.descriptions d ≡ found
    → option_map (look_of D d) found ≡ Some look → (d ≡ look.desc) × IsOnFile D d look.file
look_by_opened D d None look at is = absurd (let bad : None ≡ Some look = is in cc)
look_by_opened D d (Some opened) look at is =
    let same : look_of D d opened ≡ look = same_Some (look_of D d opened) look is in (
      ap (λ (l : Look). l.desc) same,
      ap (option_map (λ (o : OpenFileDescription). o.file)) at ∙ ap (λ (l : Look). Some l.file) same,
    )

look_by_number : (D : Descriptors) (found : Option ℕ) (look : Look)
    → option_and_then (λ number. option_map (look_of D number) (description_numbered D.descriptions number)) found ≡ Some look
    → (found ≡ Some look.desc) × IsOnFile D look.desc look.file
look_by_number D None look is = absurd (let bad : None ≡ Some look = is in cc)
look_by_number D (Some d) look is =
    let opened = look_by_opened D d (description_numbered D.descriptions d) look refl is in
    (ap Some opened.0, subst (λ (n : ℕ). IsOnFile D n look.file) opened.0 opened.1)

pub look_refers : (D : Descriptors) (p fd : ℕ) (look : Look) → look_at D p fd ≡ Some look
    → (D.description_of p fd ≡ Some look.desc) × IsOnFile D look.desc look.file
look_refers D p fd look is = look_by_number D (D.description_of p fd) look is

-- a descriptor that refers to a description which was made
pub look_made : (D : Descriptors) (p fd d : ℕ) (opened : OpenFileDescription) → D.description_of p fd ≡ Some d
    → description_numbered D.descriptions d ≡ Some opened → look_at D p fd ≡ Some (look_of D d opened)
look_made D p fd d opened refers made =
    ap (option_and_then (λ number. option_map (look_of D number) (description_numbered D.descriptions number))) refers
    ∙ ap (option_map (look_of D d)) made

pub file_made : (D : Descriptors) (d file : ℕ) (opened : OpenFileDescription) → description_numbered D.descriptions d ≡ Some opened → IsOnFile D d file
    → opened.file ≡ file
file_made D d file opened made of =
    same_Some opened.file file (sym (ap (option_map (λ (o : OpenFileDescription). o.file)) made) ∙ of)

-- ---- who has the description open still

-- some descriptor refers to the description, and isn't closed
pub record StaysOpen (closing : Closing) (D : Descriptors) (d : ℕ) : Type 0 where
  pub process : ℕ
  pub fd : ℕ
  pub refers : D.description_of process fd ≡ Some d
  pub still : closes closing process fd ≡ false

such : (closing : Closing) (q d fd : ℕ) (found : Option Look) → is_such (stays_on closing q d fd) found ≡ true
    → (look : Look) × (found ≡ Some look) × (closes closing q fd ≡ false) × (look.desc ≡ d)
such closing q d fd None is = absurd (let bad : false ≡ true = is in cc)
such closing q d fd (Some look) is = (look, refl, such_parts (closes closing q fd) (look.desc == d) is, eqb-true look.desc d (such_desc (closes closing q fd) (look.desc == d) is))
  where
    such_parts : (one other : Bool) → not one && other ≡ true → one ≡ false
    such_parts one other is = grind (arith, common_steps)

    such_desc : (one other : Bool) → not one && other ≡ true → other ≡ true
    such_desc one other is = grind (arith, common_steps)

any_such : (look : ℕ → Option Look) (test : ℕ → Look → Bool) (n : ℕ) → any_open look test n ≡ true
    → (fd : ℕ) × (fd < n) × (is_such (test fd) (look fd) ≡ true)
unfolding any_open
any_such look test zero is = absurd (let bad : false ≡ true = is in cc)
any_such look test (suc n) is = elim (or_cases (any_open look test n) (is_such (test n) (look n)) is) [
  | inl before ↦ let found = any_such look test n before in (found.0, (let low = found.1 in omega (arith, low)), found.2)
  | inr last ↦ (n, omega arith, last)
]

-- what the test of one process finds
pub keeps_finds : (limit : ℕ) (closing : Closing) (D : Descriptors) (q d : ℕ) → keeps limit D closing q d ≡ true
    → (fd : ℕ) × (D.description_of q fd ≡ Some d) × (closes closing q fd ≡ false)
keeps_finds limit closing D q d is =
    let found = any_such (look_at D q) (stays_on closing q d) limit is in
    let here = such closing q d found.0 (look_at D q found.0) found.2 in
    let refers = look_refers D q found.0 here.0 here.1 in
    (found.0, refers.0 ∙ ap Some here.3, here.2)

pub keeps_found : (limit : ℕ) (closing : Closing) (D : Descriptors) (q d fd : ℕ) (opened : OpenFileDescription) → fd < limit
    → D.description_of q fd ≡ Some d → description_numbered D.descriptions d ≡ Some opened → closes closing q fd ≡ false
    → keeps limit D closing q d ≡ true
keeps_found limit closing D q d fd opened within refers made still =
    let here : is_such (stays_on closing q d fd) (look_at D q fd) ≡ true =
    ap (is_such (stays_on closing q d fd)) (look_made D q fd d opened refers made) ∙ rw still (eq-eqb d d refl) in
    found_open (look_at D q) (stays_on closing q d) fd limit within here

pub stays_finds : (limit : ℕ) (S : State) (closing : Closing) (d n : ℕ) → stays_open limit S closing d n ≡ true → StaysOpen closing S.descriptors d
unfolding stays_open
stays_finds limit S closing d zero is = absurd (let bad : false ≡ true = is in cc)
stays_finds limit S closing d (suc q) is =
    elim (or_cases (stays_open limit S closing d q) (is_alive (S.states (suc q)) && keeps limit S.descriptors closing (suc q) d) is) [
      | inl before ↦ stays_finds limit S closing d q before
      | inr last ↦
          let found = keeps_finds limit closing S.descriptors (suc q) d
          (and_parts (is_alive (S.states (suc q))) (keeps limit S.descriptors closing (suc q) d) last).1 in
          record { process = suc q; fd = found.0; refers = found.1; still = found.2 }
    ]

pub stays_found : (processes limit : ℕ) (S : State) (closing : Closing) (d : ℕ) → AreHeld processes limit S → StaysOpen closing S.descriptors d
    → stays_open limit S closing d processes ≡ true
stays_found processes limit S closing d h opener =
    let opening = h.descriptors opener.process opener.fd d opener.refers in
    let number = h.numbered opener.process opening.alive in
    by_index opener.process number.0 number.1
    (and_from (is_alive (S.states opener.process)) (keeps limit S.descriptors closing opener.process d) opening.alive
    (keeps_found limit closing S.descriptors opener.process d opener.fd opening.opened opening.within opener.refers opening.made opener.still))
  where
    by_index : (q : ℕ) → 1 ≤ q → q ≤ processes → keeps_it limit S closing d q ≡ true → stays_open limit S closing d processes ≡ true
    by_index zero low few is = absurd (omega (arith, low))
    by_index (suc index) low few is =
        let same : suc index ≡ index + 1 = omega arith in
        somebody limit S closing d index processes (omega (arith, few)) (subst (λ (q : ℕ). keeps_it limit S closing d q ≡ true) same is)

-- ---- a closing

-- these descriptors of the process are closed: each other one is kept, and only what one that is kept refers to is open behind it
pub record IsClosing (closing : Closing) (p : ℕ) (closed : ℕ → Bool) (D E : Descriptors) (released : Released) : Type 0 where
  pub kept : (q k d : ℕ) → D.description_of q k ≡ Some d → closes closing q k ≡ false → E.description_of q k ≡ Some d
  pub only : (d : ℕ) → IsOpen E d → StaysOpen closing D d
  pub descriptions : E.descriptions ≡ D.descriptions
  pub tells : AreReleased D E p closed released
  pub closes_own : (q k : ℕ) → closes closing q k ≡ true → (q ≡ p) × (closed k ≡ true)
  pub own_closed : (k : ℕ) → closed k ≡ true → closes closing p k ≡ true

-- the process has a descriptor of the file that is closed
pub record GoesOfProcess (closing : Closing) (D : Descriptors) (file q : ℕ) : Type 0 where
  pub fd : ℕ
  pub description : ℕ
  pub refers : D.description_of q fd ≡ Some description
  pub of_file : IsOnFile D description file
  pub closed : closes closing q fd ≡ true

-- the description is of the file and doesn't stay open
pub record GoesOfDescription (processes limit : ℕ) (S : State) (closing : Closing) (file d : ℕ) : Type 0 where
  pub process : ℕ
  pub fd : ℕ
  pub refers : S.descriptors.description_of process fd ≡ Some d
  pub closed : closes closing process fd ≡ true
  pub of_file : IsOnFile S.descriptors d file
  pub last : stays_open limit S closing d processes ≡ false

-- the locks of the owner on the file go
abbrev pub Goes : ℕ → ℕ → State → Closing → ℕ → Owner → Type 0
Goes processes limit S closing file (Process q) = GoesOfProcess closing S.descriptors file q
Goes processes limit S closing file (Description d) = GoesOfDescription processes limit S closing file d

one_of : (numbers : List ℕ) (x : ℕ) → Contains numbers x → is_one_of numbers x ≡ true
one_of numbers x (k, within, is) = list_any_at (λ other. other == x) numbers k x within (eq-eqb (get_or numbers k x) x is)

member : (numbers : List ℕ) (x : ℕ) → is_one_of numbers x ≡ true → Contains numbers x
member numbers x is =
    let found = Any-from_list_any (λ other. other == x) numbers is in
    let same : found.1 ≡ x = eqb-true found.1 x found.4 in
    (found.0, found.2, subst (λ (n : ℕ). get_or numbers found.0 n ≡ n) same found.3)

pub closed_for_good : (processes limit : ℕ) (S : State) (closing : Closing) (p : ℕ) (closed : ℕ → Bool) (E : Descriptors) (released : Released) (d : ℕ)
    → AreHeld processes limit S → IsClosing closing p closed S.descriptors E released → stays_open limit S closing d processes ≡ false → ¬ IsOpen E d
closed_for_good processes limit S closing p closed E released d h is last opener =
    let still = stays_found processes limit S closing d h (is.only d opener) in
    let bad : false ≡ true = sym last ∙ still in cc

pub open_still : (processes limit : ℕ) (S : State) (closing : Closing) (p : ℕ) (closed : ℕ → Bool) (E : Descriptors) (released : Released) (d : ℕ)
    → IsClosing closing p closed S.descriptors E released → stays_open limit S closing d processes ≡ true → IsOpen E d
open_still processes limit S closing p closed E released d is stays =
    let found = stays_finds limit S closing d processes stays in
    record { process = found.process; fd = found.fd; refers = is.kept found.process found.fd d found.refers found.still }

-- so the release removes them
pub removed : (processes limit : ℕ) (S : State) (closing : Closing) (p : ℕ) (closed : ℕ → Bool) (E : Descriptors) (released : Released) (file : ℕ)
    (owner : Owner) → AreHeld processes limit S → IsClosing closing p closed S.descriptors E released → Goes processes limit S closing file owner
    → removes E p released file owner ≡ true
removed processes limit S closing p closed E released file (Process q) h is goes =
    let own = is.closes_own q goes.fd goes.closed in
    let told : Contains released.files file = (is.tells.files.each file).1 (record {
      fd = goes.fd;
      is_closed = own.1;
      description = goes.description;
      refers = ap (λ (r : ℕ). S.descriptors.description_of r goes.fd) (sym own.0) ∙ goes.refers;
      of_file = goes.of_file;
    }) in
    and_from (is_one_of released.files file) (p == q) (one_of released.files file told) (eq-eqb p q (sym own.0))
removed processes limit S closing p closed E released file (Description d) h is goes =
    let told : Contains released.descriptions d = (is.tells.descriptions.each d).1
    (record { process = goes.process; fd = goes.fd; refers = goes.refers }, closed_for_good processes limit S closing p closed E released d h is goes.last) in
    let on : is_of_file (description_numbered E.descriptions d) file ≡ true =
    ap (λ (l : List OpenFileDescription). is_of_file (description_numbered l d) file) is.descriptions ∙ on_file (description_numbered S.descriptors.descriptions d) goes.of_file in
    list_any_at (λ e. is_of_file (description_numbered E.descriptions e) file && (e == d)) released.descriptions told.0 d told.1
    (subst (λ (e : ℕ). (is_of_file (description_numbered E.descriptions e) file && (e == d)) ≡ true) (sym told.2)
    (and_from (is_of_file (description_numbered E.descriptions d) file) (d == d) on (eq-eqb d d refl)))
  where
    on_file : (x : Option OpenFileDescription) → option_map (λ opened. opened.file) x ≡ Some file → is_of_file x file ≡ true
    on_file x is = grind (arith, common_steps, eq-eqb, same_Some)

file_of : (x : Option OpenFileDescription) (f : ℕ) → is_of_file x f ≡ true → option_map (λ opened. opened.file) x ≡ Some f
file_of x f is = grind (arith, common_steps, eqb-true)

-- and no others
pub only_those : (processes limit : ℕ) (S : State) (closing : Closing) (p : ℕ) (closed : ℕ → Bool) (E : Descriptors) (released : Released) (file : ℕ)
    (owner : Owner) → IsClosing closing p closed S.descriptors E released → removes E p released file owner ≡ true
    → Goes processes limit S closing file owner
only_those processes limit S closing p closed E released file (Process q) is gone =
    let both = and_parts (is_one_of released.files file) (p == q) gone in
    let found = (is.tells.files.each file).0 (member released.files file both.0) in
    let same : p ≡ q = eqb-true p q both.1 in
    record {
      fd = found.fd;
      description = found.description;
      refers = ap (λ (r : ℕ). S.descriptors.description_of r found.fd) (sym same) ∙ found.refers;
      of_file = found.of_file;
      closed = ap (λ (r : ℕ). closes closing r found.fd) (sym same) ∙ is.own_closed found.fd found.is_closed;
    }
only_those processes limit S closing p closed E released file (Description d) is gone =
    let found = Any-from_list_any (λ e. is_of_file (description_numbered E.descriptions e) file && (e == d)) released.descriptions gone in
    let both = and_parts (is_of_file (description_numbered E.descriptions found.1) file) (found.1 == d) found.4 in
    let same : found.1 ≡ d = eqb-true found.1 d both.1 in
    let told : Contains released.descriptions d = (found.0, found.2, subst (λ (n : ℕ). get_or released.descriptions found.0 n ≡ n) same found.3) in
    let shut = (is.tells.descriptions.each d).0 told in
    let on : IsOnFile S.descriptors d file =
    ap (λ (l : List OpenFileDescription). option_map (λ (o : OpenFileDescription). o.file) (description_numbered l d)) (sym is.descriptions)
    ∙ file_of (description_numbered E.descriptions d) file (subst (λ (n : ℕ). is_of_file (description_numbered E.descriptions n) file ≡ true) same both.0) in
    record {
      process = shut.0.process;
      fd = shut.0.fd;
      refers = shut.0.refers;
      closed = by_test shut.0 shut.1 (closes closing shut.0.process shut.0.fd) refl;
      of_file = on;
      last = false_from_ne_true (stays_open limit S closing d processes)
          (λ stays. shut.1 (open_still processes limit S closing p closed E released d is stays));
    }
  where
    by_test : (opener : IsOpen S.descriptors d) → ¬ IsOpen E d → (b : Bool) → closes closing opener.process opener.fd ≡ b
        → closes closing opener.process opener.fd ≡ true
    by_test opener shut true at = at
    by_test opener shut false at =
        absurd (shut (record { process = opener.process; fd = opener.fd; refers = is.kept opener.process opener.fd d opener.refers at }))
