-- The locks that a closing removes are the report of the locks at the places that it takes, so they are determined.
use Rattle.script_core.proofs.Common.{arith, ◌≡◌, ◌≢◌, ℕ, ◌<◌, ◌==◌, ◌&&◌, not, Bool, true, false, MatchOption, Option, Some, None, option_map, option_to_list, List, [], ◌++◌, map, refl, sym, ap, ◌∙◌, subst, append-nil, append_assoc, eq-eqb, ne_eqb, common_steps}
use Rattle.script_core.proofs.Common.{Modes, AreRuns, Look, look_at, Held, Owner, Process, Description, mode_in, flock_mode_in, ByteModes, FlockModes, LocksHaveOneReport, IsFileReport, IsHeldReport, State, Closing, Nothing, OneOf, AllOf, IsWithinFiles, byte_line, flock_line, stays_open}
use Rattle.script_core.specs.Losses.{is_released, AreReleasedBy, AreReleased}
use Rattle.script_core.proofs.FilesLemmas.{look_file}
use Rattle.script_core.proofs.explained.ReportPlaceLemmas.{PlaceTest, bytes_at, flocks_at, report_left, file_reported, none_reported, both_bytes, one_flock}

-- whether the owner is the process or, where it doesn't stay open, the description
abbrev pub owner_goes : ℕ → ℕ → Bool → Owner → Bool
owner_goes p d stays (Process q) = q == p
owner_goes p d stays (Description e) = not stays && (e == d)

-- whether the place is on the file of the descriptor, and its owner goes with it
abbrev pub one_goes : ℕ → Look → Bool → PlaceTest
one_goes p look stays whole file owner = (file == look.file) && owner_goes p look.desc stays owner

-- so it is where the descriptor is open
abbrev pub goes_by : ℕ → Option Look → (ℕ → Bool) → PlaceTest
goes_by p None stays whole file owner = false
goes_by p (Some look) stays whole file owner = one_goes p look (stays look.desc) whole file owner

-- whether the closing of these descriptors takes the locks at the place
abbrev pub goes_with : ℕ → ℕ → State → Closing → PlaceTest
goes_with processes limit S Nothing whole file owner = false
goes_with processes limit S (OneOf p fd) whole file owner =
    goes_by p (look_at S.descriptors p fd) (λ d. stays_open limit S (OneOf p fd) d processes) whole file owner
goes_with processes limit S (AllOf p) whole file owner = is_released processes limit S p owner

-- ---- of one descriptor

own_at : (p : ℕ) (look : Look) (stays : Bool) (bytes : ℕ → ByteModes) (byte : ℕ)
    → bytes look.file (Process p) byte ≡ bytes_at (one_goes p look stays) bytes look.file (Process p) byte
own_at p look stays bytes byte = rw (eq-eqb look.file look.file refl, eq-eqb p p refl) refl

others_at : (p : ℕ) (look : Look) (bytes : ℕ → ByteModes) (byte : ℕ)
    → bytes look.file (Description look.desc) byte ≡ bytes_at (one_goes p look false) bytes look.file (Description look.desc) byte
others_at p look bytes byte = rw (eq-eqb look.file look.file refl, eq-eqb look.desc look.desc refl) refl

flock_at : (p : ℕ) (look : Look) (flocks : ℕ → FlockModes) → flocks_at (one_goes p look false) flocks look.file look.desc ≡ flocks look.file look.desc
flock_at p look flocks = rw (eq-eqb look.file look.file refl, eq-eqb look.desc look.desc refl) refl

kept_description : (p : ℕ) (look : Look) (bytes : ℕ → ByteModes) (file e byte : ℕ) → bytes_at (one_goes p look true) bytes file (Description e) byte ≡ None
kept_description p look bytes file e byte = grind (arith, common_steps)

kept_flock : (p : ℕ) (look : Look) (flocks : ℕ → FlockModes) (file e : ℕ) → flocks_at (one_goes p look true) flocks file e ≡ None
kept_flock p look flocks file e = grind (arith, common_steps)

other_process : (p : ℕ) (look : Look) (stays : Bool) (bytes : ℕ → ByteModes) (file q : ℕ) → q ≢ p → (byte : ℕ)
    → bytes_at (one_goes p look stays) bytes file (Process q) byte ≡ None
other_process p look stays bytes file q differs byte = let no = ne_eqb q p differs in grind (arith, common_steps)

other_description : (p : ℕ) (look : Look) (stays : Bool) (bytes : ℕ → ByteModes) (file e : ℕ) → e ≢ look.desc → (byte : ℕ)
    → bytes_at (one_goes p look stays) bytes file (Description e) byte ≡ None
other_description p look stays bytes file e differs byte = let no = ne_eqb e look.desc differs in grind (arith, common_steps)

other_flock : (p : ℕ) (look : Look) (stays : Bool) (flocks : ℕ → FlockModes) (file e : ℕ) → e ≢ look.desc
    → flocks_at (one_goes p look stays) flocks file e ≡ None
other_flock p look stays flocks file e differs = let no = ne_eqb e look.desc differs in grind (arith, common_steps)

other_file : (p : ℕ) (look : Look) (stays : Bool) (bytes : ℕ → ByteModes) (file : ℕ) → file ≢ look.file → (owner : Owner) (byte : ℕ)
    → bytes_at (one_goes p look stays) bytes file owner byte ≡ None
other_file p look stays bytes file differs owner byte = rw (ne_eqb file look.file differs) refl

other_flock_file : (p : ℕ) (look : Look) (stays : Bool) (flocks : ℕ → FlockModes) (file : ℕ) → file ≢ look.file → (d : ℕ)
    → flocks_at (one_goes p look stays) flocks file d ≡ None
other_flock_file p look stays flocks file differs d = rw (ne_eqb file look.file differs) refl

no_runs : (modes : Modes) → ((byte : ℕ) → modes byte ≡ None) → AreRuns modes []
no_runs modes none = record {
  rising = λ i j d before within. absurd (omega (arith, before, within));
  each = λ k d within. absurd (omega (arith, within));
  every = λ byte mode has. absurd (let bad : None ≡ Some mode = sym (none byte) ∙ has in cc);
}

-- what goes with a descriptor is the report of its file at these places
one_file : (S : State) (p : ℕ) (look : Look) (stays : Bool) (locks : List Held) → AreReleasedBy S p look stays locks
    → IsFileReport look.file (bytes_at (one_goes p look stays) (mode_in S.changes) look.file)
    (flocks_at (one_goes p look stays) (flock_mode_in S.flock_changes) look.file) locks
one_file S p look true locks (own, others, (runs, are, is), none, all) =
    let test = one_goes p look true in
    let bytes = mode_in S.changes in
    let flocks = flock_mode_in S.flock_changes in record {
      byte_locks = map (byte_line look.file (Process p)) runs ++ [];
      flock_locks = [];
      is = all ∙ ap (λ (l : List Held). own ++ l) none ∙ ap (λ (l : List Held). l ++ []) is ∙ sym (append-nil (map (byte_line look.file (Process p)) runs ++ []));
      are_bytes = both_bytes look.file p look.desc (bytes_at test bytes look.file) runs []
          (subst (λ (m : Modes). AreRuns m runs) (λ i byte. own_at p look true bytes byte i) are)
          (no_runs _ (kept_description p look bytes look.file look.desc))
          (other_process p look true bytes look.file) (other_description p look true bytes look.file);
      are_flocks = one_flock look.file look.desc (flocks_at test flocks look.file) None (kept_flock p look flocks look.file look.desc)
          (other_flock p look true flocks look.file);
    }
one_file S p look false locks (own, others, (runs, are, is), (bytes_of, (other_runs, are_others, is_others), is_all), all) =
    let test = one_goes p look false in
    let bytes = mode_in S.changes in
    let flocks = flock_mode_in S.flock_changes in
    let found = flocks look.file look.desc in
    let lines = map (byte_line look.file (Process p)) runs in
    let other_lines = map (byte_line look.file (Description look.desc)) other_runs in
    let flock = option_to_list (option_map (flock_line look.file look.desc) found) in record {
      byte_locks = lines ++ other_lines;
      flock_locks = flock;
      is = all ∙ ap (λ (l : List Held). l ++ others) is ∙ ap (λ (l : List Held). lines ++ l) (is_all ∙ ap (λ (l : List Held). l ++ flock) is_others)
          ∙ sym (append_assoc lines other_lines flock);
      are_bytes = both_bytes look.file p look.desc (bytes_at test bytes look.file) runs other_runs
          (subst (λ (m : Modes). AreRuns m runs) (λ i byte. own_at p look false bytes byte i) are)
          (subst (λ (m : Modes). AreRuns m other_runs) (λ i byte. others_at p look bytes byte i) are_others)
          (other_process p look false bytes look.file) (other_description p look false bytes look.file);
      are_flocks = one_flock look.file look.desc (flocks_at test flocks look.file) found (flock_at p look flocks) (other_flock p look false flocks look.file);
    }

released_by_one : (S : State) (p : ℕ) (found : Option Look) (stays : ℕ → Bool) (locks : List Held)
    → ((look : Look) → found ≡ Some look → look.file < 64) → MatchOption found (locks ≡ []) (λ look. AreReleasedBy S p look (stays look.desc) locks)
    → IsHeldReport (bytes_at (goes_by p found stays) (mode_in S.changes)) (flocks_at (goes_by p found stays) (flock_mode_in S.flock_changes)) locks
released_by_one S p None stays locks low h =
    subst (IsHeldReport _ _) (sym h) (none_reported _ _ (λ f owner byte. refl) (λ f d. refl))
released_by_one S p (Some look) stays locks low h =
    file_reported look.file _ _ locks (low look refl) (other_file p look (stays look.desc) (mode_in S.changes))
    (other_flock_file p look (stays look.desc) (flock_mode_in S.flock_changes)) (one_file S p look (stays look.desc) locks h)

-- ---- of any closing

-- what it removes is the report of the places that it takes
pub released_reported : (processes limit : ℕ) (S : State) (closing : Closing) (locks : List Held) → IsWithinFiles S
    → AreReleased processes limit S closing locks
    → IsHeldReport (bytes_at (goes_with processes limit S closing) (mode_in S.changes))
    (flocks_at (goes_with processes limit S closing) (flock_mode_in S.flock_changes)) locks
released_reported processes limit S Nothing locks files h =
    subst (IsHeldReport _ _) (sym h) (none_reported _ _ (λ f owner byte. refl) (λ f d. refl))
released_reported processes limit S (OneOf p fd) locks files h =
    released_by_one S p (look_at S.descriptors p fd) (λ d. stays_open limit S (OneOf p fd) d processes) locks
    (λ look is. look_file S.descriptors p fd look files.descriptions is) h
released_reported processes limit S (AllOf p) locks files h =
    subst (IsHeldReport _ _) (sym h.2)
    (report_left (goes_with processes limit S (AllOf p)) (mode_in S.changes) (flock_mode_in S.flock_changes) h.0 h.1)

pub AreReleased-unique : LocksHaveOneReport → (processes limit : ℕ) (S : State) (closing : Closing) (locks others : List Held) → IsWithinFiles S
    → AreReleased processes limit S closing locks → AreReleased processes limit S closing others → locks ≡ others
AreReleased-unique one processes limit S closing locks others files h k =
    one _ _ locks others (released_reported processes limit S closing locks files h) (released_reported processes limit S closing others files k)
