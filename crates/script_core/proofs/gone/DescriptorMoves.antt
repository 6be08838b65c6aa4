-- What a call on descriptors keeps: each descriptor and each description's file, or all but those that it closes.
use Rattle.script_core.proofs.Common.{arith, rules, ne_eqb, ◌≡◌, ◌≢◌, ℕ, zero, suc, ◌+◌, ◌<◌, ◌≤◌, ◌==◌, ◌&&◌, ◌⊎◌, inl, inr, Bool, true, false, if◌then◌else◌, Option, Some, None, option_map, Ok, List, [], ◌∷◌, ◌++◌, length, slice_get, refl, sym, ap, ◌∙◌, subst, eq-eqb, ℤ, common_steps, and_from, and_parts, cases_Bool, cases_eq, eqb-true, same_Some, slice_get_within}
use Rattle.script_core.proofs.Common.{Access, Limits, Descriptors, OpenFileDescription, SameDescriptors, description_numbered, descriptor_limit, with_descriptor, Released, AreReleased, nothing, Owner, Process, Description, mode_in, flock_mode_in, ProcState, State, HasOpenOn, Closing, Nothing, OneOf, AllOf, closes, is_alive}
use Rattle.std.proofs.Common.{pred, get_or-set_same, get_or-set_other, length-set}
use Rattle.std.specs.Prelude.{slice_set, Contains}
use Rattle.std.specs.List.{AllByRecursion as Each}
use Rattle.std.specs.List.Sorted.{IsStrictlyIncreasing}
use Rattle.std.proofs.lemmas.Option.{slice_get_cases, slice_get_read}
use Rattle.fd_table.specs.Calls.{OpenGives, DupGives, CloseGives, EndGives, SeekGives, ResizeGives}
use Rattle.script_core.proofs.FitLemmas.{each_map}
use Rattle.script_core.proofs.gone.HolderMoves.{HasOpen, MayHold, IsHolding, IsOpening, AreHeld}
use Rattle.script_core.proofs.gone.ReleaseMoves.{IsOnFile, StaysOpen, IsClosing}

-- ---- descriptors that are all kept

-- each descriptor refers to its description still, and each description is of its file
pub record Widens (D E : Descriptors) : Type 0 where
  pub refers : (q k d : ℕ) → D.description_of q k ≡ Some d → E.description_of q k ≡ Some d
  pub files : (d file : ℕ) → IsOnFile D d file → IsOnFile E d file

still_on : (D E : Descriptors) (q file d : ℕ) → Widens D E → HasOpenOn D q file d → HasOpenOn E q file d
still_on D E q file d wide has = record { fd = has.fd; refers = wide.refers q has.fd d has.refers; of_file = wide.files d file has.of_file }

has_still : (D E : Descriptors) (file : ℕ) (owner : Owner) → Widens D E → HasOpen D file owner → HasOpen E file owner
has_still D E file (Process p) wide (d, has) = (d, still_on D E p file d wide has)
has_still D E file (Description d) wide (p, has) = (p, still_on D E p file d wide has)

may_still : (D E : Descriptors) (p file : ℕ) (owner : Owner) → Widens D E → MayHold D p file owner → MayHold E p file owner
may_still D E p file (Process q) wide (same, d, has) = (same, d, still_on D E p file d wide has)
may_still D E p file (Description d) wide has = still_on D E p file d wide has

made_on : (D : Descriptors) (d file : ℕ) → IsOnFile D d file → (x : OpenFileDescription) × (description_numbered D.descriptions d ≡ Some x)
made_on D d file is = by_found (description_numbered D.descriptions d) refl is
  where
    by_found : (found : Option OpenFileDescription) → description_numbered D.descriptions d ≡ found → option_map (λ opened. opened.file) found ≡ Some file
        → (x : OpenFileDescription) × (description_numbered D.descriptions d ≡ Some x)
    by_found None at is = absurd (let bad : None ≡ Some file = is in cc)
    by_found (Some x) at is = (x, at)

pub opening_still : (limit : ℕ) (states : ℕ → ProcState) (D E : Descriptors) (q k d : ℕ) → Widens D E → IsOpening limit states D q k d
    → IsOpening limit states E q k d
opening_still limit states D E q k d wide opening =
    let made = made_on E d opening.opened.file (wide.files d opening.opened.file (ap (option_map (λ (o : OpenFileDescription). o.file)) opening.made)) in
    record { within = opening.within; alive = opening.alive; opened = made.0; made = made.1 }

-- the locks and waits of a state that has such descriptors
pub widened_held : (processes limit : ℕ) (S T : State) → AreHeld processes limit S → Widens S.descriptors T.descriptors → T.changes ≡ S.changes
    → T.flock_changes ≡ S.flock_changes → T.waits ≡ S.waits
    → ((q k d : ℕ) → T.descriptors.description_of q k ≡ Some d → IsOpening limit T.states T.descriptors q k d)
    → ((q : ℕ) → is_alive (T.states q) ≡ true → (1 ≤ q) × (q ≤ processes)) → AreHeld processes limit T
widened_held processes limit S T h wide changes flock_changes waits opened numbered = record {
  bytes = λ file owner byte mode at.
      let held = h.bytes file owner byte mode (ap (λ (l : List _). mode_in l file owner byte) (sym changes) ∙ at) in
      (has_still S.descriptors T.descriptors file owner wide held.0, held.1);
  flocks = λ file d mode at.
      has_still S.descriptors T.descriptors file (Description d) wide (h.flocks file d mode (ap (λ (l : List _). flock_mode_in l file d) (sym flock_changes) ∙ at));
  waits = subst (Each (IsHolding T.descriptors)) (sym waits)
      (each_map (IsHolding S.descriptors) (IsHolding T.descriptors) S.waits
      (λ wait holding. record { holder = may_still S.descriptors T.descriptors wait.p wait.file wait.owner wide holding.holder; within = holding.within }) h.waits);
  descriptors = opened;
  numbered = numbered;
}

-- ---- one descriptor more

by_place : (q k p fd : ℕ) → ((q ≡ p) × (k ≡ fd)) ⊎ (((q == p) && (k == fd)) ≡ false)
by_place q k p fd = elim (cases_Bool ((q == p) && (k == fd))) [
  | inl here ↦ let both = and_parts (q == p) (k == fd) here in inl (eqb-true q p both.0, eqb-true k fd both.1)
  | inr other ↦ inr other
]

slice_on : (xs ys : List OpenFileDescription) (k f : ℕ) → option_map (λ (o : OpenFileDescription). o.file) (slice_get xs k) ≡ Some f
    → option_map (λ (o : OpenFileDescription). o.file) (slice_get (xs ++ ys) k) ≡ Some f
slice_on [] ys k f is = absurd (let bad : None ≡ Some f = is in cc)
slice_on (x ∷ xs) ys zero f is = is
slice_on (x ∷ xs) ys (suc k) f is = slice_on xs ys k f is

numbered_on : (xs ys : List OpenFileDescription) (d f : ℕ) → option_map (λ (o : OpenFileDescription). o.file) (description_numbered xs d) ≡ Some f
    → option_map (λ (o : OpenFileDescription). o.file) (description_numbered (xs ++ ys) d) ≡ Some f
numbered_on xs ys zero f is = is
numbered_on xs ys (suc k) f is = slice_on xs ys k f is

last_made : (xs : List OpenFileDescription) (x : OpenFileDescription) (d : ℕ) → d ≡ length xs + 1 → description_numbered (xs ++ x ∷ []) d ≡ Some x
last_made xs x zero is = absurd (omega (arith, is))
last_made xs x (suc k) is = let same : k ≡ length xs = omega (arith, is) in ap (slice_get (xs ++ x ∷ [])) same ∙ at_end xs
  where
    at_end : (l : List OpenFileDescription) → slice_get (l ++ x ∷ []) (length l) ≡ Some x
    at_end [] = refl
    at_end (first ∷ l) = at_end l

-- a descriptor that wasn't open refers to a description
joined : (old new : Descriptors) (p fd number : ℕ) → ((q k : ℕ) → new.description_of q k ≡ (if (q == p) && (k == fd) then Some number else old.description_of q k))
    → old.description_of p fd ≡ None → (q k d : ℕ) → old.description_of q k ≡ Some d → new.description_of q k ≡ Some d
joined old new p fd number same free q k d is = elim (by_place q k p fd) [
  | inl here ↦
      absurd (let at : old.description_of q k ≡ None = ap (λ (n : ℕ). old.description_of n k) here.0 ∙ ap (old.description_of p) here.1 ∙ free in
      let bad : None ≡ Some d = sym at ∙ is in cc)
  | inr other ↦ same q k ∙ rw other is
]

pub open_widens : (limits : Limits) (old : Descriptors) (p file : ℕ) (access : Access) (fd : ℕ) (new : Descriptors)
    → OpenGives limits old p file access (Ok fd) new → Widens old new
open_widens limits old p file access fd new (low, few, free, same) = record {
  refers = joined old new p fd (length old.descriptions + 1) same.description_of free.free;
  files = λ d f is.
      ap (λ (l : List OpenFileDescription). option_map (λ (o : OpenFileDescription). o.file) (description_numbered l d)) same.descriptions
      ∙ numbered_on old.descriptions _ d f is;
}

pub dup_widens : (limits : Limits) (old : Descriptors) (p fd free : ℕ) (new : Descriptors) → DupGives limits old p fd (Ok free) new → Widens old new
dup_widens limits old p fd free new (description, refers, lowest, same) = record {
  refers = joined old new p free description same.description_of lowest.free;
  files = λ d f is.
      ap (λ (l : List OpenFileDescription). option_map (λ (o : OpenFileDescription). o.file) (description_numbered l d)) same.descriptions ∙ is;
}

-- what each descriptor of the new ones is, where one was added
pub joined_opened : (limit : ℕ) (states : ℕ → ProcState) (old new : Descriptors) (p fd number : ℕ)
    → ((q k : ℕ) → new.description_of q k ≡ (if (q == p) && (k == fd) then Some number else old.description_of q k))
    → Widens old new → ((q k d : ℕ) → old.description_of q k ≡ Some d → IsOpening limit states old q k d) → IsOpening limit states new p fd number
    → (q k d : ℕ) → new.description_of q k ≡ Some d → IsOpening limit states new q k d
joined_opened limit states old new p fd number same wide each added q k d is = elim (by_place q k p fd) [
  | inl here ↦
      let at : new.description_of q k ≡ Some number =
      same q k ∙ rw (and_from (q == p) (k == fd) (eq-eqb q p here.0) (eq-eqb k fd here.1)) refl in
      let number_is : number ≡ d = same_Some number d (sym at ∙ is) in
      subst (λ (n : ℕ). IsOpening limit states new n k d) (sym here.0)
      (subst (λ (n : ℕ). IsOpening limit states new p n d) (sym here.1) (subst (IsOpening limit states new p fd) number_is added))
  | inr other ↦
      let at : old.description_of q k ≡ Some d =
      sym (let e : (if (q == p) && (k == fd) then Some number else old.description_of q k) ≡ old.description_of q k = rw other refl in e) ∙ sym (same q k) ∙ is in
      opening_still limit states old new q k d wide (each q k d at)
]

pub open_opened : (limits : Limits) (states : ℕ → ProcState) (old : Descriptors) (p file : ℕ) (access : Access) (fd : ℕ) (new : Descriptors)
    → OpenGives limits old p file access (Ok fd) new
    → ((q k d : ℕ) → old.description_of q k ≡ Some d → IsOpening (descriptor_limit limits) states old q k d) → is_alive (states p) ≡ true
    → (q k d : ℕ) → new.description_of q k ≡ Some d → IsOpening (descriptor_limit limits) states new q k d
open_opened limits states old p file access fd new gives each alive =
    let same = gives.3 in
    let x : OpenFileDescription = record { file = file; access = access; offset = 0 } in
    joined_opened (descriptor_limit limits) states old new p fd (length old.descriptions + 1) same.description_of
    (open_widens limits old p file access fd new gives) each
    (record {
      within = gives.2.within;
      alive = alive;
      opened = x;
      made = ap (λ (l : List OpenFileDescription). description_numbered l (length old.descriptions + 1)) same.descriptions
          ∙ last_made old.descriptions x (length old.descriptions + 1) refl;
    })

pub dup_opened : (limits : Limits) (states : ℕ → ProcState) (old : Descriptors) (p fd free : ℕ) (new : Descriptors) → DupGives limits old p fd (Ok free) new
    → ((q k d : ℕ) → old.description_of q k ≡ Some d → IsOpening (descriptor_limit limits) states old q k d)
    → (q k d : ℕ) → new.description_of q k ≡ Some d → IsOpening (descriptor_limit limits) states new q k d
dup_opened limits states old p fd free new gives each =
    let source = opening_still (descriptor_limit limits) states old new p fd gives.0 (dup_widens limits old p fd free new gives) (each p fd gives.0 gives.1) in
    joined_opened (descriptor_limit limits) states old new p free gives.0 gives.3.description_of (dup_widens limits old p fd free new gives) each
    (record { within = gives.2.within; alive = source.alive; opened = source.opened; made = source.made })

-- ---- an offset, a size

slice_get-set_same : {X : Type 0} (xs : List X) (i : ℕ) (x : X) → i < length xs → slice_get (slice_set xs i x) i ≡ Some x
slice_get-set_same xs i x within =
    slice_get_read (slice_set xs i x) (length xs) i x (sym (length-set xs i x)) within (sym (get_or-set_same xs i x x within))

slice_get-set_other : {X : Type 0} (xs : List X) (i j : ℕ) (x : X) → j ≢ i → slice_get (slice_set xs i x) j ≡ slice_get xs j
slice_get-set_other xs i j x other = grind (arith, common_steps, slice_get_cases, length-set, get_or-set_other)

set_on : (xs : List OpenFileDescription) (number d f : ℕ) (x y : OpenFileDescription) → description_numbered xs number ≡ Some x → y.file ≡ x.file
    → option_map (λ (o : OpenFileDescription). o.file) (description_numbered xs d) ≡ Some f
    → option_map (λ (o : OpenFileDescription). o.file) (description_numbered (slice_set xs (pred number) y) d) ≡ Some f
set_on xs zero d f x y at same is = absurd (let bad : None ≡ Some x = at in cc)
set_on xs (suc i) zero f x y at same is = is
set_on xs (suc i) (suc k) f x y at same is = elim (cases_eq k i) [
  | inl here ↦
      let old : Some x.file ≡ Some f = ap (option_map (λ (o : OpenFileDescription). o.file)) (sym at ∙ ap (slice_get xs) (sym here)) ∙ is in
      ap (λ (n : ℕ). option_map (λ (o : OpenFileDescription). o.file) (slice_get (slice_set xs i y) n)) here
      ∙ ap (option_map (λ (o : OpenFileDescription). o.file)) (slice_get-set_same xs i y (slice_get_within xs i x at)) ∙ ap Some same ∙ old
  | inr other ↦ ap (option_map (λ (o : OpenFileDescription). o.file)) (slice_get-set_other xs i k y other) ∙ is
]

pub seek_widens : (old : Descriptors) (p fd : ℕ) (offset : ℤ) (done : Unit {0}) (new : Descriptors) → SeekGives old p fd offset (Ok done) new → Widens old new
seek_widens old p fd offset done new (opened, refers, n, is_offset, same) = record {
  refers = λ q k d is. same.description_of q k ∙ is;
  files = λ d f is.
      ap (λ (l : List OpenFileDescription). option_map (λ (o : OpenFileDescription). o.file) (description_numbered l d)) same.descriptions
      ∙ set_on old.descriptions refers.number d f opened (record opened { offset = n }) refers.numbered refl is;
}

pub resize_widens : (old : Descriptors) (p fd : ℕ) (size : ℤ) (done : Unit {0}) (new : Descriptors) → ResizeGives old p fd size (Ok done) new → Widens old new
resize_widens old p fd size done new (opened, refers, n, is_size, same) = record {
  refers = λ q k d is. same.description_of q k ∙ is;
  files = λ d f is.
      ap (λ (l : List OpenFileDescription). option_map (λ (o : OpenFileDescription). o.file) (description_numbered l d)) same.descriptions ∙ is;
}

-- with the same numbers the descriptors are those that they were
pub same_opened : (limit : ℕ) (states : ℕ → ProcState) (old new : Descriptors) → ((q k : ℕ) → new.description_of q k ≡ old.description_of q k)
    → Widens old new → ((q k d : ℕ) → old.description_of q k ≡ Some d → IsOpening limit states old q k d)
    → (q k d : ℕ) → new.description_of q k ≡ Some d → IsOpening limit states new q k d
same_opened limit states old new same wide each q k d is = opening_still limit states old new q k d wide (each q k d (sym (same q k) ∙ is))

-- ---- descriptors that are closed

closes_of : (closing : Closing) (p : ℕ) (closed : ℕ → Bool) (old new : Descriptors) (released : Released)
    → ((q k : ℕ) → new.description_of q k ≡ (if closes closing q k then None else old.description_of q k)) → new.descriptions ≡ old.descriptions
    → AreReleased old new p closed released → ((q k : ℕ) → closes closing q k ≡ true → (q ≡ p) × (closed k ≡ true))
    → ((k : ℕ) → closed k ≡ true → closes closing p k ≡ true) → IsClosing closing p closed old new released
closes_of closing p closed old new released same descriptions tells closes_own own_closed = record {
  kept = λ q k d is still. same q k ∙ rw still is;
  only = λ d opener. by_test d opener.process opener.fd (closes closing opener.process opener.fd) refl (sym (same opener.process opener.fd) ∙ opener.refers);
  descriptions = descriptions;
  tells = tells;
  closes_own = closes_own;
  own_closed = own_closed;
}
  where
    by_test : (d q k : ℕ) (b : Bool) → closes closing q k ≡ b → (if closes closing q k then None else old.description_of q k) ≡ Some d → StaysOpen closing old d
    by_test d q k true at is = absurd (let bad : None ≡ Some d = rw at at is in cc)
    by_test d q k false at is = record { process = q; fd = k; refers = rw at at is; still = at }

pub close_closes : (old : Descriptors) (p fd : ℕ) (released : Released) (new : Descriptors) → CloseGives old p fd (Ok released) new
    → IsClosing (OneOf p fd) p (λ k. k == fd) old new released
close_closes old p fd released new (refers, same, tells) =
    closes_of (OneOf p fd) p (λ k. k == fd) old new released same.description_of same.descriptions tells
    (λ q k is. let both = and_parts (q == p) (k == fd) is in (eqb-true q p both.0, both.1))
    (λ k is. and_from (p == p) (k == fd) (eq-eqb p p refl) is)

pub end_closes : (old : Descriptors) (p : ℕ) (released : Released) (new : Descriptors) → EndGives old p released new
    → IsClosing (AllOf p) p (λ k. true) old new released
end_closes old p released new (same, tells) =
    closes_of (AllOf p) p (λ k. true) old new released (λ q k. same.description_of q k ∙ plain (q == p) (old.description_of q k)) same.descriptions tells
    (λ q k is. (eqb-true q p is, refl)) (λ k is. eq-eqb p p refl)
  where
    plain : (b : Bool) (found : Option ℕ) → (if b && true then None else found) ≡ (if b then None else found)
    plain b found = grind (arith, common_steps)

pub nothing_closes : (old : Descriptors) (p : ℕ) (new : Descriptors) → SameDescriptors new old → IsClosing Nothing p (λ k. false) old new nothing
nothing_closes old p new same =
    closes_of Nothing p (λ k. false) old new nothing same.description_of same.descriptions
    (record {
      files = record {
        rising = none_rise;
        each = λ x. ((λ there. absurd (no_member x there)), (λ closing. absurd (let bad : false ≡ true = closing.is_closed in cc)));
      };
      descriptions = record {
        rising = none_rise;
        each = λ x. (
          (λ there. absurd (no_member x there)),
          (λ shut. absurd (shut.1 (record {
            process = shut.0.process;
            fd = shut.0.fd;
            refers = same.description_of shut.0.process shut.0.fd ∙ shut.0.refers;
          }))),
        );
      };
    })
    (λ q k is. absurd (let bad : false ≡ true = is in cc)) (λ k is. is)
  where
    no_member : (x : ℕ) → Contains [] x → ⊥
    no_member x (k, within, is) = omega (arith, within)

    none_rise : IsStrictlyIncreasing []
    none_rise = search rules

-- dup2 onto another number
pub move_closes : (old : Descriptors) (p fd to description : ℕ) (released : Released) (new : Descriptors) → old.description_of p fd ≡ Some description
    → (to == fd) ≡ false → SameDescriptors new (with_descriptor old p to description) → AreReleased old new p (λ k. k == to) released
    → IsClosing (OneOf p to) p (λ k. k == to) old new released
move_closes old p fd to description released new refers apart same tells = record {
  kept = λ q k d is still. same.description_of q k ∙ rw still is;
  only = λ d opener. by_test d opener.process opener.fd (closes (OneOf p to) opener.process opener.fd) refl (sym (same.description_of opener.process opener.fd) ∙ opener.refers);
  descriptions = same.descriptions;
  tells = tells;
  closes_own = λ q k is. let both = and_parts (q == p) (k == to) is in (eqb-true q p both.0, both.1);
  own_closed = λ k is. and_from (p == p) (k == to) (eq-eqb p p refl) is;
}
  where
    other : (fd == to) ≡ false
    other = ne_eqb fd to (λ e. let bad : (to == fd) ≡ true = eq-eqb to fd (sym e) in cc)

    by_test : (d q k : ℕ) (b : Bool) → closes (OneOf p to) q k ≡ b
        → (if closes (OneOf p to) q k then Some description else old.description_of q k) ≡ Some d → StaysOpen (OneOf p to) old d
    by_test d q k true at is =
        let moved : Some description ≡ Some d = rw at at is in
        record { process = p; fd = fd; refers = refers ∙ moved; still = rw (eq-eqb p p refl) other }
    by_test d q k false at is = record { process = q; fd = k; refers = rw at at is; still = at }
