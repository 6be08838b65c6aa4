-- The lines of a state, one after another: for `write_explained`, clause `ok`; and what words ask for no state: for `States::of_word`.
use Rattle.script_core.proofs.Common.{common_steps, ℕ, zero, suc, ◌≡◌, ◌≢◌, ◌<◌, ◌+◌, Some, None, get_or, slice_get, length, drop, take, subst, ⊎_elim, List, [], ◌∷◌, ◌++◌, inl, inr, refl, sym, ap, ◌∙◌, codes, arith, append_assoc, append-nil, add-one, ◌≤◌, Option, decimal, map, flat_map, Result, Ok, Err, MatchResult, decimal_digit, decimal_injective, cases_eq, get_or_from_slice_get, slice_get-get_or, slice_get_within}
use Rattle.script_core.proofs.Common.{FILES, Look, Descriptors, look_at, Held, mode_in, flock_mode_in, IsHeldReport, Wait, ProcState, Rules, Manager, Visit, State, Visits, StandsFor, processes_of, state_at, Extends, States, StateLine, AreStateLines, IsChangesText, IsStateText, TellsState, marked_line}
use Rattle.std.proofs.lemmas.Grind.{flat_map-append}
use Rattle.std.proofs.Common.{OnOk}
use Rattle.std.proofs.lemmas.List.{take_more}
use Rattle.lock_manager.specs.declared.request.TheConstants.{SECTIONS}
use Rattle.script_core.specs.declared.states.States.TheVariants as places
use Rattle.script_core.specs.declared.state_lines.StateLine.TheVariants as lines
use Rattle.script_core.specs.StateText.{AreMissing, AsksForNoState, IsAmong, IsKept, standing_line, standing_lines, descriptor_line, descriptor_lines, all_descriptor_lines, visit_line, visit_lines, section_lines, size_line, size_lines}

-- where no process stands
pub none_standing : (states : ℕ → ProcState) (old : List StateLine) → old ≡ old ++ standing_lines states 0
unfolding standing_lines
none_standing states old = sym (append-nil old)

-- the line of one process more
pub more_standing : (states : ℕ → ProcState) (old mid new : List StateLine) (index : ℕ) → mid ≡ old ++ standing_lines states index
    → new ≡ mid ++ standing_line (index + 1) (states (index + 1)) → new ≡ old ++ standing_lines states (index + 1)
unfolding standing_lines
more_standing states old mid new index was is = grind (arith, common_steps, add-one, append_assoc)

-- no descriptors
pub none_open : (D : Descriptors) (p : ℕ) (old : List StateLine) → old ≡ old ++ descriptor_lines D p 0
unfolding descriptor_lines
none_open D p old = sym (append-nil old)

-- the line of one descriptor more
pub more_open : (D : Descriptors) (p : ℕ) (old mid new : List StateLine) (index : ℕ) (look : Option Look) → look ≡ look_at D p index
    → mid ≡ old ++ descriptor_lines D p index → new ≡ mid ++ descriptor_line p index look → new ≡ old ++ descriptor_lines D p (index + 1)
unfolding descriptor_lines
more_open D p old mid new index look h h2 h3 = grind (arith, common_steps, append_assoc, add-one)

-- the lines of no process' descriptors, and of one process more
pub none_open_anywhere : (D : Descriptors) (descriptors : ℕ) (old : List StateLine) → old ≡ old ++ all_descriptor_lines D descriptors 0
unfolding all_descriptor_lines
none_open_anywhere D descriptors old = sym (append-nil old)

pub more_open_anywhere : (D : Descriptors) (descriptors : ℕ) (old mid new : List StateLine) (index : ℕ)
    → mid ≡ old ++ all_descriptor_lines D descriptors index → new ≡ mid ++ descriptor_lines D (index + 1) descriptors
    → new ≡ old ++ all_descriptor_lines D descriptors (index + 1)
unfolding all_descriptor_lines
more_open_anywhere D descriptors old mid new index was is = grind (arith, common_steps, add-one, append_assoc)

-- nobody in a section, and one process more
pub none_visiting : (visits : Visits) (section : ℕ) (old : List StateLine) → old ≡ old ++ visit_lines visits section 0
unfolding visit_lines
none_visiting visits section old = sym (append-nil old)

pub more_visiting : (visits : Visits) (section : ℕ) (old mid new : List StateLine) (index : ℕ) (visit : Option Visit) → visit ≡ visits (index + 1) section
    → mid ≡ old ++ visit_lines visits section index → new ≡ mid ++ visit_line section (index + 1) visit
    → new ≡ old ++ visit_lines visits section (index + 1)
unfolding visit_lines
more_visiting visits section old mid new index visit h h2 h3 = grind (arith, common_steps, append_assoc, add-one)

-- no section, and one more
pub none_visited : (visits : Visits) (processes : ℕ) (old : List StateLine) → old ≡ old ++ section_lines visits processes 0
unfolding section_lines
none_visited visits processes old = sym (append-nil old)

pub more_visited : (visits : Visits) (processes : ℕ) (old mid new : List StateLine) (section : ℕ)
    → mid ≡ old ++ section_lines visits processes section → new ≡ mid ++ visit_lines visits section processes
    → new ≡ old ++ section_lines visits processes (section + 1)
unfolding section_lines
more_visited visits processes old mid new section was is = grind (arith, common_steps, add-one, append_assoc)

-- no files
pub none_sized : (sizes : ℕ → ℕ) (old : List StateLine) → old ≡ old ++ size_lines sizes 0
unfolding size_lines
none_sized sizes old = sym (append-nil old)

-- the line of one file more
pub more_sized : (sizes : ℕ → ℕ) (old mid new : List StateLine) (index size : ℕ) → size ≡ sizes index
    → mid ≡ old ++ size_lines sizes index → new ≡ mid ++ size_line index size → new ≡ old ++ size_lines sizes (index + 1)
unfolding size_lines
more_sized sizes old mid new index size at was is = grind (arith, common_steps, add-one, append_assoc)

-- the lines of processes that stand the same are the same
same_standing : (states others : ℕ → ProcState) (n : ℕ) → ((p : ℕ) → states p ≡ others p) → standing_lines states n ≡ standing_lines others n
unfolding standing_lines
same_standing states others n h = grind (arith, common_steps)

-- the locks, the waits, the processes, the descriptors, the visits and the files, one group behind another, are the state
pub lines_told : (manager : Manager) (descriptors : ℕ) (S : State) (held : List Held) (waits : List Wait) (t0 t1 t2 t3 t4 t5 t6 : List StateLine)
    → StandsFor manager S → IsHeldReport (mode_in S.changes) (flock_mode_in S.flock_changes) held → waits ≡ S.waits → t0 ≡ []
    → t1 ≡ t0 ++ map lines.Held held → t2 ≡ t1 ++ map lines.Waits waits → t3 ≡ t2 ++ standing_lines (state_at manager) (processes_of manager)
    → t4 ≡ t3 ++ all_descriptor_lines S.descriptors descriptors (processes_of manager)
    → t5 ≡ t4 ++ section_lines S.visits (processes_of manager) SECTIONS → t6 ≡ t5 ++ size_lines S.descriptors.sizes FILES
    → AreStateLines (processes_of manager) descriptors S t6
lines_told manager descriptors S held waits t0 t1 t2 t3 t4 t5 t6 stands reported same none first second third fourth fifth sixth =
    grind (arith, common_steps, same_standing)

-- the text of these lines, behind the old one
pub state_pushed : {E : Type 0} (r : Result Unit E) (manager : Manager) (descriptors : ℕ) (old new : List ℕ) (told : List StateLine)
    → ((S : State) → StandsFor manager S → AreStateLines (processes_of manager) descriptors S told)
    → MatchResult r (λ unit. new ≡ old ++ flat_map (marked_line (codes "# ")) told) (λ error. Extends old new)
    → OnOk r ((S : State) → StandsFor manager S → (more : List ℕ) × IsStateText (processes_of manager) descriptors S more × (new ≡ old ++ more))
state_pushed (Ok done) manager descriptors old new told are is = λ S stands. (flat_map (marked_line (codes "# ")) told, (told, are S stands, refl), is)
state_pushed (Err error) manager descriptors old new told are is = tt

-- no entry has the number 0
pub zero_asks_for_none : (word : List ℕ) → word ≡ decimal 0 → AsksForNoState word
zero_asks_for_none word is = grind (arith, common_steps, decimal_digit, decimal_injective)

-- ---- what changed

-- one more line, which is among the others, or isn't
pub missing_there : (told others missing : List StateLine) (line : StateLine) → AreMissing told others missing → IsAmong others line
    → AreMissing (told ++ line ∷ []) others missing
missing_there [] others missing line are among = inl (among, are)
missing_there (first ∷ told) others missing line (inl here) among = inl (here.0, missing_there told others missing line here.1 among)
missing_there (first ∷ told) others missing line (inr out) among =
    inr (out.0, (out.1.0, out.1.1, missing_there told others out.1.0 line out.1.2 among))

pub missing_more : (told others missing : List StateLine) (line : StateLine) → AreMissing told others missing → (IsAmong others line → ⊥)
    → AreMissing (told ++ line ∷ []) others (missing ++ line ∷ [])
missing_more [] others missing line are apart = inr (apart, ([], ap (λ (l : List StateLine). l ++ line ∷ []) are, refl))
missing_more (first ∷ told) others missing line (inl here) apart = inl (here.0, missing_more told others missing line here.1 apart)
missing_more (first ∷ told) others missing line (inr out) apart =
    inr (out.0, (out.1.0 ++ line ∷ [], ap (λ (l : List StateLine). l ++ line ∷ []) out.1.1, missing_more told others out.1.0 line out.1.2 apart))

flat_map_more : {X : Type 0} (f : X → List ℕ) (xs : List X) (x : X) → flat_map f (xs ++ x ∷ []) ≡ flat_map f xs ++ f x
flat_map_more f xs x = flat_map-append f xs (x ∷ []) ∙ ap (λ (l : List ℕ). flat_map f xs ++ l) (append-nil (f x))

-- the first so many lines were told, each that is missing among the others behind the mark
pub record HasMissed (told others : List StateLine) (mark old new : List ℕ) : Type 0 where
  pub missing : List StateLine
  pub are : AreMissing told others missing
  pub is : new ≡ old ++ flat_map (marked_line mark) missing

pub HasMissed-none : (others : List StateLine) (mark old : List ℕ) → HasMissed [] others mark old old
HasMissed-none others mark old = record { missing = []; are = refl; is = sym (append-nil old) }

-- one more line, which is among the others, or isn't and was told
pub HasMissed-there : (told others : List StateLine) (mark old new : List ℕ) (index : ℕ) (d : StateLine) → index < length told
    → HasMissed (take index told) others mark old new → IsAmong others (get_or told index d) → HasMissed (take (index + 1) told) others mark old new
HasMissed-there told others mark old new index d within h among =
    subst (λ (l : List StateLine). HasMissed l others mark old new) (sym (take_more told index d within))
    (record { missing = h.missing; are = missing_there (take index told) others h.missing (get_or told index d) h.are among; is = h.is })

pub HasMissed-more : (told others : List StateLine) (mark old mid new : List ℕ) (index : ℕ) (d : StateLine) → index < length told
    → HasMissed (take index told) others mark old mid → (IsAmong others (get_or told index d) → ⊥)
    → new ≡ mid ++ marked_line mark (get_or told index d) → HasMissed (take (index + 1) told) others mark old new
HasMissed-more told others mark old mid new index d within h apart pushed =
    let line = get_or told index d in
    subst (λ (l : List StateLine). HasMissed l others mark old new) (sym (take_more told index d within)) (record {
      missing = h.missing ++ line ∷ [];
      are = missing_more (take index told) others h.missing line h.are apart;
      is = pushed ∙ ap (λ (l : List ℕ). l ++ marked_line mark line) h.is ∙ append_assoc old (flat_map (marked_line mark) h.missing) (marked_line mark line)
          ∙ ap (λ (l : List ℕ). old ++ l) (sym (flat_map_more (marked_line mark) h.missing line));
    })

-- what went, and then what came, is what changed
pub changes_pushed : (before after : List StateLine) (old mid new : List ℕ)
    → ((gone : List StateLine) × AreMissing before after gone × (mid ≡ old ++ flat_map (marked_line (codes "# - ")) gone))
    → ((came : List StateLine) × AreMissing after before came × (new ≡ mid ++ flat_map (marked_line (codes "# + ")) came))
    → (more : List ℕ) × IsChangesText before after more × (new ≡ old ++ more)
changes_pushed before after old mid new (gone, are_gone, first) (came, are_came, second) =
    let went = flat_map (marked_line (codes "# - ")) gone in
    let arrived = flat_map (marked_line (codes "# + ")) came in
    (went ++ arrived, (gone, are_gone, came, are_came, refl), second ∙ ap (λ (l : List ℕ). l ++ arrived) first ∙ append_assoc old went arrived)

-- the first state is told against nothing
pub kept_first : (states : States) (rules : Rules) (processes : ℕ) (S : State) → IsKept states rules processes 1 S []
kept_first places.Nowhere rules processes S = tt
kept_first (places.Behind place) rules processes S = tt
kept_first places.Everywhere rules processes S = tt
kept_first places.Changes rules processes S = refl

-- what is told of the state where nothing is kept
abbrev pub StateTold : States → Rules → ℕ → Manager → List StateLine → List StateLine → List ℕ → List ℕ → Type 0
StateTold states rules number manager before after old new =
    (S T : State) → StandsFor manager T → IsKept states rules (processes_of manager) number S before
    → (more : List ℕ) × TellsState states rules (processes_of manager) number S T more × (new ≡ old ++ more)
    × IsKept states rules (processes_of manager) (number + 1) T after

-- ---- where a line stands

-- the line at a place
pub found_at : (told : List StateLine) (line d : StateLine) (place : ℕ) → place < length told → get_or told place d ≡ line → slice_get told place ≡ Some line
found_at told line d place within same = slice_get-get_or told place d within ∙ ap (λ (l : StateLine). Some l) same

-- one more place where it doesn't stand
pub not_up_to : (told : List StateLine) (line d : StateLine) (place : ℕ) → place < length told → (get_or told place d ≡ line → ⊥)
    → ((at : ℕ) → at < place → slice_get told at ≢ Some line) → (at : ℕ) → at < place + 1 → slice_get told at ≢ Some line
not_up_to told line d place within apart before at below found =
    ⊎_elim
    (λ here. apart (get_or_from_slice_get told place line d (ap (slice_get told) (sym here) ∙ found)))
    (λ elsewhere. before at (omega (arith, below, elsewhere)) found) (cases_eq at place)

-- so nowhere
pub not_among : (told : List StateLine) (line : StateLine) (place : ℕ) → length told ≤ place
    → ((at : ℕ) → at < place → slice_get told at ≢ Some line) → IsAmong told line → ⊥
not_among told line place past before (at, found) =
    let within = slice_get_within told at line found in before at (omega (arith, past, within)) found

-- a place among the last lines
pub place_behind : (told : List StateLine) (from place : ℕ) (line : StateLine) → slice_get (drop from told) place ≡ Some line
    → slice_get told (from + place) ≡ Some line
place_behind told zero place line found = ap (slice_get told) (omega arith) ∙ found
place_behind [] (suc from) place line found = absurd (let none : None ≡ Some line = found in cc)
place_behind (first ∷ told) (suc from) place line found =
    let on : suc from + place ≡ suc (from + place) = omega arith in
    ap (slice_get (first ∷ told)) on ∙ place_behind told from place line found
