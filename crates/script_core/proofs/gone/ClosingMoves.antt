-- What a closing leaves: at the places that it takes nobody has a lock, at each other place who had one has it still, and each lock and
-- wait that is left is of an owner that has the file open.
use Rattle.script_core.proofs.Common.{arith, ◌≡◌, ◌≢◌, ℕ, ◌≤◌, ◌==◌, ◌&&◌, not, Bool, true, false, if◌then◌else◌, Option, Some, None, option_map, List, refl, sym, ap, ◌∙◌, subst, eq-eqb, common_steps, and_from, and_parts, eqb-true, false_from_ne_true}
use Rattle.script_core.proofs.Common.{OFFMAX, Mode, Look, Descriptors, OpenFileDescription, description_numbered, look_at, look_of, Released, Owner, Process, Description, whole_file, mode_in, flock_mode_in, Wait, State, with_released, HasOpenOn, Closing, Nothing, OneOf, AllOf, closes, keeps, is_alive, stays_open}
use Rattle.std.specs.List.{AllByRecursion as Each}
use Rattle.std.proofs.lemmas.Bool.{not-true}
use Rattle.range_core.specs.Changes.{is_covered}
use Rattle.script_core.proofs.FitLemmas.{each_both}
use Rattle.script_core.proofs.explained.LossLaws.{goes_by, goes_with}
use Rattle.script_core.proofs.gone.GoneLaws.{Leaves, some_of}
use Rattle.script_core.proofs.gone.HolderMoves.{HasOpen, MayHold, IsHolding, IsOpening, AreHeld}
use Rattle.script_core.proofs.gone.ReleaseMoves.{IsOnFile, IsClosing, Goes, removes, look_refers, look_made, file_made, keeps_finds, keeps_found, stays_finds, closed_for_good, removed, only_those, released_mode, released_flock, covered}

-- ---- the places that a closing takes

by_look : (processes limit : ℕ) (S : State) (p fd : ℕ) (whole : Bool) (file : ℕ) (owner : Owner) (found : Option Look) → look_at S.descriptors p fd ≡ found
    → goes_by p found (λ d. stays_open limit S (OneOf p fd) d processes) whole file owner ≡ true → Goes processes limit S (OneOf p fd) file owner
by_look processes limit S p fd whole file owner None at is = absurd (let bad : false ≡ true = is in cc)
by_look processes limit S p fd whole file (Process q) (Some look) at is =
    let both = and_parts (file == look.file) (q == p) is in
    let same : q ≡ p = eqb-true q p both.1 in
    let on : file ≡ look.file = eqb-true file look.file both.0 in
    let refers = look_refers S.descriptors p fd look at in
    record {
      fd = fd;
      description = look.desc;
      refers = ap (λ (r : ℕ). S.descriptors.description_of r fd) same ∙ refers.0;
      of_file = refers.1 ∙ ap Some (sym on);
      closed = and_from (q == p) (fd == fd) both.1 (eq-eqb fd fd refl);
    }
by_look processes limit S p fd whole file (Description e) (Some look) at is =
    let stays = stays_open limit S (OneOf p fd) look.desc processes in
    let both = and_parts (file == look.file) (not stays && (e == look.desc)) is in
    let last = and_parts (not stays) (e == look.desc) both.1 in
    let same : e ≡ look.desc = eqb-true e look.desc last.1 in
    let on : file ≡ look.file = eqb-true file look.file both.0 in
    let refers = look_refers S.descriptors p fd look at in
    record {
      process = p;
      fd = fd;
      refers = refers.0 ∙ ap Some (sym same);
      closed = and_from (p == p) (fd == fd) (eq-eqb p p refl) (eq-eqb fd fd refl);
      of_file = ap (λ (d : ℕ). option_map (λ (o : OpenFileDescription). o.file) (description_numbered S.descriptors.descriptions d)) same ∙ refers.1 ∙ ap Some (sym on);
      last = ap (λ (d : ℕ). stays_open limit S (OneOf p fd) d processes) same ∙ not-true stays last.0;
    }

-- of an owner that has the file open the locks go
pub goes_there : (processes limit : ℕ) (S : State) (closing : Closing) (whole : Bool) (file : ℕ) (owner : Owner)
    → goes_with processes limit S closing whole file owner ≡ true → HasOpen S.descriptors file owner → Goes processes limit S closing file owner
goes_there processes limit S Nothing whole file owner is has = absurd (let bad : false ≡ true = is in cc)
goes_there processes limit S (OneOf p fd) whole file owner is has =
    by_look processes limit S p fd whole file owner (look_at S.descriptors p fd) refl is
goes_there processes limit S (AllOf p) whole file (Process q) is (d, has) =
    record { fd = has.fd; description = d; refers = has.refers; of_file = has.of_file; closed = is }
goes_there processes limit S (AllOf p) whole file (Description d) is (q, has) =
    let both = and_parts (keeps limit S.descriptors Nothing p d) (not (stays_open limit S (AllOf p) d processes)) is in
    let found = keeps_finds limit Nothing S.descriptors p d both.0 in
    record {
      process = p;
      fd = found.0;
      refers = found.1;
      closed = eq-eqb p p refl;
      of_file = has.of_file;
      last = not-true (stays_open limit S (AllOf p) d processes) both.1;
    }

-- and where they go the place is taken
pub goes_back : (processes limit : ℕ) (S : State) (closing : Closing) (whole : Bool) (file : ℕ) (owner : Owner) → AreHeld processes limit S
    → Goes processes limit S closing file owner → goes_with processes limit S closing whole file owner ≡ true
goes_back processes limit S Nothing whole file (Process q) h goes = absurd (let bad : false ≡ true = goes.closed in cc)
goes_back processes limit S Nothing whole file (Description d) h goes = absurd (let bad : false ≡ true = goes.closed in cc)
goes_back processes limit S (OneOf p fd) whole file (Process q) h goes =
    let both = and_parts (q == p) (goes.fd == fd) goes.closed in
    let opening = h.descriptors q goes.fd goes.description goes.refers in
    let D = S.descriptors in
    let look : look_at D p fd ≡ Some (look_of D goes.description opening.opened) =
    ap (λ (r : ℕ). look_at D r fd) (sym (eqb-true q p both.0)) ∙ ap (look_at D q) (sym (eqb-true goes.fd fd both.1))
    ∙ look_made D q goes.fd goes.description opening.opened goes.refers opening.made in
    let on : opening.opened.file ≡ file = file_made D goes.description file opening.opened opening.made goes.of_file in
    subst (λ (found : Option Look). goes_by p found (λ d. stays_open limit S (OneOf p fd) d processes) whole file (Process q) ≡ true) (sym look)
    (and_from (file == opening.opened.file) (q == p) (eq-eqb file opening.opened.file (sym on)) both.0)
goes_back processes limit S (OneOf p fd) whole file (Description d) h goes =
    let both = and_parts (goes.process == p) (goes.fd == fd) goes.closed in
    let opening = h.descriptors goes.process goes.fd d goes.refers in
    let D = S.descriptors in
    let look : look_at D p fd ≡ Some (look_of D d opening.opened) =
    ap (λ (r : ℕ). look_at D r fd) (sym (eqb-true goes.process p both.0)) ∙ ap (look_at D goes.process) (sym (eqb-true goes.fd fd both.1))
    ∙ look_made D goes.process goes.fd d opening.opened goes.refers opening.made in
    let on : opening.opened.file ≡ file = file_made D d file opening.opened opening.made goes.of_file in
    let stays = stays_open limit S (OneOf p fd) d processes in
    subst (λ (found : Option Look). goes_by p found (λ e. stays_open limit S (OneOf p fd) e processes) whole file (Description d) ≡ true) (sym look)
    (and_from (file == opening.opened.file) (not stays && (d == d)) (eq-eqb file opening.opened.file (sym on))
    (and_from (not stays) (d == d) (ap not goes.last) (eq-eqb d d refl)))
goes_back processes limit S (AllOf p) whole file (Process q) h goes = goes.closed
goes_back processes limit S (AllOf p) whole file (Description d) h goes =
    let opening = h.descriptors goes.process goes.fd d goes.refers in
    let own : S.descriptors.description_of p goes.fd ≡ Some d =
    ap (λ (r : ℕ). S.descriptors.description_of r goes.fd) (sym (eqb-true goes.process p goes.closed)) ∙ goes.refers in
    and_from (keeps limit S.descriptors Nothing p d) (not (stays_open limit S (AllOf p) d processes))
    (keeps_found limit Nothing S.descriptors p d goes.fd opening.opened opening.within own opening.made refl) (ap not goes.last)

-- ---- the locks that are left

not_both : (b c : Bool) (found : Option Mode) → found ≡ None → (if b && c then None else found) ≡ None
not_both b c found none = grind (arith, common_steps)

not_one : (b : Bool) (found : Option Mode) → found ≡ None → (if b then None else found) ≡ None
not_one b found none = grind (arith, common_steps)

pub release_leaves : (processes limit : ℕ) (S : State) (closing : Closing) (p : ℕ) (closed : ℕ → Bool) (E : Descriptors) (released : Released)
    → AreHeld processes limit S → IsClosing closing p closed S.descriptors E released
    → Leaves (goes_with processes limit S closing) S (with_released S E p released)
release_leaves processes limit S closing p closed E released h is = record {
  bytes_gone = λ file owner byte goes.
      released_mode S E p released file owner byte ∙ gone_bytes file owner byte goes (mode_in S.changes file owner byte) refl;
  bytes_kept = λ file owner byte stays some none.
      let held = some_of (mode_in S.changes file owner byte) some in
      let kept = stays_there false file owner stays in
      let same : (if removes E p released file owner && is_covered whole_file byte then None else mode_in S.changes file owner byte) ≡ mode_in S.changes file owner byte =
      rw kept refl in
      some (sym same ∙ sym (released_mode S E p released file owner byte) ∙ none);
  flocks_gone = λ file d goes. released_flock S E p released file d ∙ gone_flock file d goes (flock_mode_in S.flock_changes file d) refl;
  flocks_kept = λ file d stays some none.
      let kept = stays_there true file (Description d) stays in
      let same : (if removes E p released file (Description d) then None else flock_mode_in S.flock_changes file d) ≡ flock_mode_in S.flock_changes file d =
      rw kept refl in
      some (sym same ∙ sym (released_flock S E p released file d) ∙ none);
}
  where
    gone_bytes : (file : ℕ) (owner : Owner) (byte : ℕ) → goes_with processes limit S closing false file owner ≡ true → (found : Option Mode)
        → mode_in S.changes file owner byte ≡ found
        → (if removes E p released file owner && is_covered whole_file byte then None else mode_in S.changes file owner byte) ≡ None
    gone_bytes file owner byte goes None at = not_both (removes E p released file owner) (is_covered whole_file byte) (mode_in S.changes file owner byte) at
    gone_bytes file owner byte goes (Some mode) at =
        let held = h.bytes file owner byte mode at in
        let out = removed processes limit S closing p closed E released file owner h is (goes_there processes limit S closing false file owner goes held.0) in
        let all = covered byte held.1 in
        rw (out, all) refl

    gone_flock : (file d : ℕ) → goes_with processes limit S closing true file (Description d) ≡ true → (found : Option Mode)
        → flock_mode_in S.flock_changes file d ≡ found
        → (if removes E p released file (Description d) then None else flock_mode_in S.flock_changes file d) ≡ None
    gone_flock file d goes None at = not_one (removes E p released file (Description d)) (flock_mode_in S.flock_changes file d) at
    gone_flock file d goes (Some mode) at =
        let held = h.flocks file d mode at in
        let out = removed processes limit S closing p closed E released file (Description d) h is
        (goes_there processes limit S closing true file (Description d) goes held) in
        rw out refl

    stays_there : (whole : Bool) (file : ℕ) (owner : Owner) → goes_with processes limit S closing whole file owner ≡ false
        → removes E p released file owner ≡ false
    stays_there whole file owner stays =
        false_from_ne_true (removes E p released file owner) (λ out.
        let goes = goes_back processes limit S closing whole file owner h (only_those processes limit S closing p closed E released file owner is out) in
        let bad : false ≡ true = sym stays ∙ goes in cc)

-- ---- who has the file open still

has_kept : (processes limit : ℕ) (S : State) (closing : Closing) (p : ℕ) (closed : ℕ → Bool) (E : Descriptors) (released : Released) (file : ℕ)
    (owner : Owner) → AreHeld processes limit S → IsClosing closing p closed S.descriptors E released → removes E p released file owner ≡ false
    → HasOpen S.descriptors file owner → HasOpen E file owner
has_kept processes limit S closing p closed E released file owner h is stays has = by_owner owner stays has
  where
    on : (d : ℕ) → IsOnFile S.descriptors d file → IsOnFile E d file
    on d here = ap (λ (l : List OpenFileDescription). option_map (λ (o : OpenFileDescription). o.file) (description_numbered l d)) is.descriptions ∙ here

    kept : (q d : ℕ) → (has : HasOpenOn S.descriptors q file d) → closes closing q has.fd ≡ false → HasOpenOn E q file d
    kept q d has still = record { fd = has.fd; refers = is.kept q has.fd d has.refers still; of_file = on d has.of_file }

    not_gone : (o : Owner) → removes E p released file o ≡ false → Goes processes limit S closing file o → ⊥
    not_gone o stays goes =
        let out = removed processes limit S closing p closed E released file o h is goes in
        let bad : false ≡ true = sym stays ∙ out in cc

    own : (q d : ℕ) → removes E p released file (Process q) ≡ false → (has : HasOpenOn S.descriptors q file d) → (b : Bool) → closes closing q has.fd ≡ b
        → HasOpenOn E q file d
    own q d stays has false at = kept q d has at
    own q d stays has true at =
        absurd (not_gone (Process q) stays (record { fd = has.fd; description = d; refers = has.refers; of_file = has.of_file; closed = at }))

    others : (q d : ℕ) → removes E p released file (Description d) ≡ false → (has : HasOpenOn S.descriptors q file d) → (b : Bool)
        → closes closing q has.fd ≡ b → (c : Bool) → stays_open limit S closing d processes ≡ c → HasOpen E file (Description d)
    others q d stays has false at c still = (q, kept q d has at)
    others q d stays has true at true still =
        let found = stays_finds limit S closing d processes still in
        (found.process, record { fd = found.fd; refers = is.kept found.process found.fd d found.refers found.still; of_file = on d has.of_file })
    others q d stays has true at false still =
        absurd (not_gone (Description d) stays
        (record { process = q; fd = has.fd; refers = has.refers; closed = at; of_file = has.of_file; last = still }))

    by_owner : (o : Owner) → removes E p released file o ≡ false → HasOpen S.descriptors file o → HasOpen E file o
    by_owner (Process q) stays (d, has) = (d, own q d stays has (closes closing q has.fd) refl)
    by_owner (Description d) stays (q, has) = others q d stays has (closes closing q has.fd) refl (stays_open limit S closing d processes) refl

-- the waits of other processes
wait_kept : (closing : Closing) (p : ℕ) (closed : ℕ → Bool) (D E : Descriptors) (released : Released) (wait : Wait) → IsClosing closing p closed D E released
    → wait.p ≢ p → IsHolding D wait → IsHolding E wait
wait_kept closing p closed D E released wait is another holding =
    record { holder = by_owner wait.owner holding.holder; within = holding.within }
  where
    still : (fd : ℕ) (b : Bool) → closes closing wait.p fd ≡ b → closes closing wait.p fd ≡ false
    still fd false at = at
    still fd true at = absurd (another (is.closes_own wait.p fd at).0)

    kept : (d : ℕ) → HasOpenOn D wait.p wait.file d → HasOpenOn E wait.p wait.file d
    kept d has = record {
      fd = has.fd;
      refers = is.kept wait.p has.fd d has.refers (still has.fd (closes closing wait.p has.fd) refl);
      of_file = ap (λ (l : List OpenFileDescription). option_map (λ (o : OpenFileDescription). o.file) (description_numbered l d)) is.descriptions ∙ has.of_file;
    }

    by_owner : (o : Owner) → MayHold D wait.p wait.file o → MayHold E wait.p wait.file o
    by_owner (Process q) (same, d, has) = (same, d, kept d has)
    by_owner (Description d) has = kept d has

-- ---- no wait that is left is at a place that is taken

goes_own : (processes limit : ℕ) (S : State) (closing : Closing) (whole : Bool) (file q : ℕ) → goes_with processes limit S closing whole file (Process q) ≡ true
    → (k : ℕ) × (closes closing q k ≡ true)
goes_own processes limit S Nothing whole file q is = absurd (let bad : false ≡ true = is in cc)
goes_own processes limit S (AllOf p) whole file q is = (0, is)
goes_own processes limit S (OneOf p fd) whole file q is =
    let goes = by_look processes limit S p fd whole file (Process q) (look_at S.descriptors p fd) refl is in (goes.fd, goes.closed)

goes_last : (processes limit : ℕ) (S : State) (closing : Closing) (whole : Bool) (file d : ℕ)
    → goes_with processes limit S closing whole file (Description d) ≡ true → stays_open limit S closing d processes ≡ false
goes_last processes limit S Nothing whole file d is = absurd (let bad : false ≡ true = is in cc)
goes_last processes limit S (AllOf p) whole file d is =
    not-true (stays_open limit S (AllOf p) d processes)
    (and_parts (keeps limit S.descriptors Nothing p d) (not (stays_open limit S (AllOf p) d processes)) is).1
goes_last processes limit S (OneOf p fd) whole file d is =
    (by_look processes limit S p fd whole file (Description d) (look_at S.descriptors p fd) refl is).last

pub wait_spared : (processes limit : ℕ) (S : State) (closing : Closing) (p : ℕ) (closed : ℕ → Bool) (E : Descriptors) (released : Released) (wait : Wait)
    → AreHeld processes limit S → IsClosing closing p closed S.descriptors E released → wait.p ≢ p → IsHolding E wait → (whole : Bool)
    → goes_with processes limit S closing whole wait.file wait.owner ≡ false
wait_spared processes limit S closing p closed E released wait h is another holding whole =
    false_from_ne_true (goes_with processes limit S closing whole wait.file wait.owner) (λ goes. by_owner wait.owner holding.holder goes)
  where
    by_owner : (o : Owner) → MayHold E wait.p wait.file o → goes_with processes limit S closing whole wait.file o ≡ true → ⊥
    by_owner (Process q) (same, d, has) goes =
        let own = goes_own processes limit S closing whole wait.file q goes in
        another (sym same ∙ (is.closes_own q own.0 own.1).0)
    by_owner (Description d) has goes =
        closed_for_good processes limit S closing p closed E released d h is (goes_last processes limit S closing whole wait.file d goes)
        (record { process = wait.p; fd = has.fd; refers = has.refers })

-- ---- the state behind it

pub release_held : (processes limit : ℕ) (S T : State) (closing : Closing) (p : ℕ) (closed : ℕ → Bool) (E : Descriptors) (released : Released)
    → AreHeld processes limit S → IsClosing closing p closed S.descriptors E released → T.changes ≡ (with_released S E p released).changes
    → T.flock_changes ≡ (with_released S E p released).flock_changes → T.descriptors ≡ E → Each (IsHolding S.descriptors) T.waits
    → Each (λ wait. wait.p ≢ p) T.waits → ((q fd d : ℕ) → E.description_of q fd ≡ Some d → IsOpening limit T.states E q fd d)
    → ((q : ℕ) → is_alive (T.states q) ≡ true → (1 ≤ q) × (q ≤ processes)) → AreHeld processes limit T
release_held processes limit S T closing p closed E released h is changes flock_changes descriptors waits others opened numbered =
    record {
      bytes = λ file owner byte mode at.
          subst (λ (D : Descriptors). HasOpen D file owner × (byte ≤ OFFMAX)) (sym descriptors)
          (by_bytes file owner byte mode
          (sym (released_mode S E p released file owner byte) ∙ ap (λ (l : List _). mode_in l file owner byte) (sym changes) ∙ at));
      flocks = λ file d mode at.
          subst (λ (D : Descriptors). HasOpen D file (Description d)) (sym descriptors)
          (by_flocks file d mode
          (sym (released_flock S E p released file d) ∙ ap (λ (l : List _). flock_mode_in l file d) (sym flock_changes) ∙ at));
      waits = subst (λ (D : Descriptors). Each (IsHolding D) T.waits) (sym descriptors)
          (each_both (λ wait. wait.p ≢ p) (IsHolding S.descriptors) (IsHolding E) T.waits
          (λ wait another holding. wait_kept closing p closed S.descriptors E released wait is another holding) others waits);
      descriptors = subst (λ (D : Descriptors). (q fd d : ℕ) → D.description_of q fd ≡ Some d → IsOpening limit T.states D q fd d) (sym descriptors) opened;
      numbered = numbered;
    }
  where
    by_bytes : (file : ℕ) (owner : Owner) (byte : ℕ) (mode : Mode)
        → (if removes E p released file owner && is_covered whole_file byte then None else mode_in S.changes file owner byte) ≡ Some mode
        → HasOpen E file owner × (byte ≤ OFFMAX)
    by_bytes file owner byte mode at = by_test (removes E p released file owner) refl at
      where
        by_test : (b : Bool) → removes E p released file owner ≡ b
            → (if b && is_covered whole_file byte then None else mode_in S.changes file owner byte) ≡ Some mode → HasOpen E file owner × (byte ≤ OFFMAX)
        by_test false stays at =
            let held = h.bytes file owner byte mode at in
            (has_kept processes limit S closing p closed E released file owner h is stays held.0, held.1)
        by_test true out at = by_cover (is_covered whole_file byte) refl at
          where
            by_cover : (c : Bool) → is_covered whole_file byte ≡ c → (if true && c then None else mode_in S.changes file owner byte) ≡ Some mode
                → HasOpen E file owner × (byte ≤ OFFMAX)
            by_cover true all at = absurd (let bad : None ≡ Some mode = at in cc)
            by_cover false not_all at =
                let held = h.bytes file owner byte mode at in
                absurd (let all = covered byte held.1 in let bad : false ≡ true = sym not_all ∙ all in cc)

    by_flocks : (file d : ℕ) (mode : Mode)
        → (if removes E p released file (Description d) then None else flock_mode_in S.flock_changes file d) ≡ Some mode → HasOpen E file (Description d)
    by_flocks file d mode at = by_test (removes E p released file (Description d)) refl at
      where
        by_test : (b : Bool) → removes E p released file (Description d) ≡ b → (if b then None else flock_mode_in S.flock_changes file d) ≡ Some mode
            → HasOpen E file (Description d)
        by_test false stays at = has_kept processes limit S closing p closed E released file (Description d) h is stays (h.flocks file d mode at)
        by_test true out at = absurd (let bad : None ≡ Some mode = at in cc)
