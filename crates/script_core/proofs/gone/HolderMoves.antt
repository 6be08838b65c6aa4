-- Each lock is of an owner that has the file open, and each wait of one that its process has open; what is set and granted keeps that.
use Rattle.script_core.proofs.Common.{arith, ne_eqb, ◌≡◌, ◌≢◌, ℕ, ◌<◌, ◌≤◌, ◌==◌, ◌&&◌, ◌⊎◌, inl, inr, Bool, true, false, if◌then◌else◌, Option, Some, None, List, [], ◌∷◌, ◌++◌, refl, sym, ap, ◌∙◌, subst, common_steps, and_parts, cases_eq, eqb-true}
use Rattle.script_core.proofs.Common.{OFFMAX, Mode, Span, Descriptors, OpenFileDescription, description_numbered, opening_descriptors, Owner, Process, Description, Change, FlockChange, sets_byte, mode_from, mode_in, flock_mode_from, flock_mode_in, Family, Bytes, Whole, Policy, Wait, Note, ProcState, Live, Waiting, State, opening_state, with_lock_of, with_lock, with_byte_mode, with_flock_mode, with_process, Settles, granted, Outcome, waits_then, HasOpenOn, is_alive}
use Rattle.std.specs.List.{AllByRecursion as Each}
use Rattle.std.proofs.lemmas.Bool.{leb-true}
use Rattle.script_core.proofs.FitLemmas.{each_append, each_middle}
use Rattle.script_core.proofs.explained.WaitingMoves.{AreStanding, IsSuspended, granted_stand}
use Rattle.script_core.proofs.gone.GoneLaws.{one_owner}

-- the owner has the file open: a process by a descriptor of its own, a description by one of any process
abbrev pub HasOpen : Descriptors → ℕ → Owner → Type 0
HasOpen D file (Process p) = (d : ℕ) × HasOpenOn D p file d
HasOpen D file (Description d) = (p : ℕ) × HasOpenOn D p file d

-- the process has the file open for the owner, which it is itself, or a description that it has open
abbrev pub MayHold : Descriptors → ℕ → ℕ → Owner → Type 0
MayHold D p file (Process q) = (q ≡ p) × (d : ℕ) × HasOpenOn D p file d
MayHold D p file (Description d) = HasOpenOn D p file d

-- the process of the wait has its file open for its owner
pub record IsHolding (D : Descriptors) (wait : Wait) : Type 0 where
  pub holder : MayHold D wait.p wait.file wait.owner
  pub within : wait.span.last ≤ OFFMAX

-- the descriptor has a number that the limits have, its process lives or waits, and the description was made
pub record IsOpening (limit : ℕ) (states : ℕ → ProcState) (D : Descriptors) (p fd d : ℕ) : Type 0 where
  pub within : fd < limit
  pub alive : is_alive (states p) ≡ true
  pub opened : OpenFileDescription
  pub made : description_numbered D.descriptions d ≡ Some opened

-- all locks and waits are of owners that have their files open, and all descriptors are of processes that live or wait
pub record AreHeld (processes limit : ℕ) (S : State) : Type 0 where
  pub bytes : (file : ℕ) (owner : Owner) (byte : ℕ) (mode : Mode) → mode_in S.changes file owner byte ≡ Some mode
      → HasOpen S.descriptors file owner × (byte ≤ OFFMAX)
  pub flocks : (file d : ℕ) (mode : Mode) → flock_mode_in S.flock_changes file d ≡ Some mode → HasOpen S.descriptors file (Description d)
  pub waits : Each (IsHolding S.descriptors) S.waits
  pub descriptors : (p fd d : ℕ) → S.descriptors.description_of p fd ≡ Some d → IsOpening limit S.states S.descriptors p fd d
  pub numbered : (p : ℕ) → is_alive (S.states p) ≡ true → (1 ≤ p) × (p ≤ processes)

-- who has a lock keeps one there
pub record Keeps (S T : State) : Type 0 where
  pub bytes : (file : ℕ) (owner : Owner) (byte : ℕ) → mode_in S.changes file owner byte ≢ None → mode_in T.changes file owner byte ≢ None
  pub flocks : (file d : ℕ) → flock_mode_in S.flock_changes file d ≢ None → flock_mode_in T.flock_changes file d ≢ None

pub opening_held : (processes limit : ℕ) → 1 ≤ processes → AreHeld processes limit opening_state
unfolding opening_state opening_descriptors
opening_held processes limit some = record {
  bytes = λ file owner byte mode is. absurd (let bad : None ≡ Some mode = is in cc);
  flocks = λ file d mode is. absurd (let bad : None ≡ Some mode = is in cc);
  waits = tt;
  descriptors = λ p fd d is. absurd (let bad : None ≡ Some d = is in cc);
  numbered = λ p alive. first p (cases_eq p 1) alive;
}
  where
    first : (p : ℕ) → (p ≡ 1) ⊎ (p ≢ 1) → is_alive (opening_state.states p) ≡ true → (1 ≤ p) × (p ≤ processes)
    first p (inl same) alive = (omega (arith, same), omega (arith, same, some))
    first p (inr differs) alive = grind (arith, common_steps, ne_eqb)

-- ---- one change more

pub mode_push : (before : Option Mode) (changes : List Change) (change : Change) (file : ℕ) (owner : Owner) (byte : ℕ)
    → mode_from before (changes ++ change ∷ []) file owner byte
    ≡ (if sets_byte change file owner byte then change.mode else mode_from before changes file owner byte)
mode_push before [] change file owner byte = refl
mode_push before (first ∷ changes) change file owner byte =
    mode_push (if sets_byte first file owner byte then first.mode else before) changes change file owner byte

pub flock_push : (before : Option Mode) (changes : List FlockChange) (change : FlockChange) (file d : ℕ)
    → flock_mode_from before (changes ++ change ∷ []) file d
    ≡ (if (change.file == file) && (change.description == d) then change.mode else flock_mode_from before changes file d)
flock_push before [] change file d = refl
flock_push before (first ∷ changes) change file d =
    flock_push (if (first.file == file) && (first.description == d) then first.mode else before) changes change file d

-- what the change sets, where it does
pub record SetsThere (change : Change) (file : ℕ) (owner : Owner) (byte : ℕ) : Type 0 where
  pub on : change.file ≡ file
  pub of : change.owner ≡ owner
  pub within : byte ≤ change.span.last

pub sets_there : (change : Change) (file : ℕ) (owner : Owner) (byte : ℕ) → sets_byte change file owner byte ≡ true → SetsThere change file owner byte
sets_there change file owner byte is = grind (arith, common_steps, eqb-true, one_owner, leb-true)

by_if : (b : Bool) (new old : Option Mode) (mode : Mode) → (if b then new else old) ≡ Some mode
    → ((b ≡ true) × (new ≡ Some mode)) ⊎ ((b ≡ false) × (old ≡ Some mode))
by_if true new old mode is = inl (refl, is)
by_if false new old mode is = inr (refl, is)

some_if : (b : Bool) (mode : Mode) (old : Option Mode) → old ≢ None → (if b then Some mode else old) ≢ None
some_if true mode old some is = let bad : Some mode ≡ None = is in cc
some_if false mode old some is = some is

-- ---- a lock that is set

open_of : (D : Descriptors) (p file : ℕ) (owner : Owner) → MayHold D p file owner → HasOpen D file owner
open_of D p file (Process q) (same, d, has) = (d, subst (λ (r : ℕ). HasOpenOn D r file d) (sym same) has)
open_of D p file (Description d) has = (p, has)

abbrev change_of : ℕ → Owner → Span → Option Mode → Change
change_of file owner span mode = record { file = file; owner = owner; span = span; mode = mode }

set_held : (processes limit : ℕ) (S : State) (file : ℕ) (owner : Owner) (span : Span) (mode : Option Mode) → AreHeld processes limit S
    → ((m : Mode) → mode ≡ Some m → HasOpen S.descriptors file owner × (span.last ≤ OFFMAX))
    → AreHeld processes limit (with_byte_mode S file owner span mode)
set_held processes limit S file owner span mode h may = record {
  bytes = λ f o byte m is. either f o byte m
      (by_if (sets_byte (change_of file owner span mode) f o byte) mode (mode_in S.changes f o byte) m (sym (mode_push None S.changes (change_of file owner span mode) f o byte) ∙ is));
  flocks = h.flocks;
  waits = h.waits;
  descriptors = h.descriptors;
  numbered = h.numbered;
}
  where
    either : (f : ℕ) (o : Owner) (byte : ℕ) (m : Mode)
        → ((sets_byte (change_of file owner span mode) f o byte ≡ true) × (mode ≡ Some m)) ⊎ ((sets_byte (change_of file owner span mode) f o byte ≡ false) × (mode_in S.changes f o byte ≡ Some m))
        → HasOpen S.descriptors f o × (byte ≤ OFFMAX)
    either f o byte m (inr (other, is)) = h.bytes f o byte m is
    either f o byte m (inl (here, is)) =
        let there = sets_there (change_of file owner span mode) f o byte here in
        let has = may m is in
        let low = there.within in
        let last = has.1 in
        (subst (λ (n : ℕ). HasOpen S.descriptors n o) there.on (subst (λ (x : Owner). HasOpen S.descriptors file x) there.of has.0), omega (arith, low, last))

flock_held : (processes limit : ℕ) (S : State) (file d : ℕ) (mode : Option Mode) → AreHeld processes limit S
    → ((m : Mode) → mode ≡ Some m → HasOpen S.descriptors file (Description d)) → AreHeld processes limit (with_flock_mode S file d mode)
flock_held processes limit S file d mode h may = record {
  bytes = h.bytes;
  flocks = λ f e m is. either f e m
      (by_if ((file == f) && (d == e)) mode (flock_mode_in S.flock_changes f e) m
      (sym (flock_push None S.flock_changes (record { file = file; description = d; mode = mode }) f e) ∙ is));
  waits = h.waits;
  descriptors = h.descriptors;
  numbered = h.numbered;
}
  where
    either : (f e : ℕ) (m : Mode) → (((file == f) && (d == e) ≡ true) × (mode ≡ Some m)) ⊎ (((file == f) && (d == e) ≡ false) × (flock_mode_in S.flock_changes f e ≡ Some m))
        → HasOpen S.descriptors f (Description e)
    either f e m (inr (other, is)) = h.flocks f e m is
    either f e m (inl (here, is)) =
        let both = and_parts (file == f) (d == e) here in
        subst (λ (n : ℕ). HasOpen S.descriptors n (Description e)) (eqb-true file f both.0)
        (subst (λ (x : ℕ). HasOpen S.descriptors file (Description x)) (eqb-true d e both.1) (may m is))

pub unlocked_held : (processes limit : ℕ) (S : State) (file : ℕ) (owner : Owner) (span : Span) → AreHeld processes limit S
    → AreHeld processes limit (with_byte_mode S file owner span None)
unlocked_held processes limit S file owner span h = set_held processes limit S file owner span None h (λ m is. absurd (let bad : None ≡ Some m = is in cc))

pub unflocked_held : (processes limit : ℕ) (S : State) (file d : ℕ) → AreHeld processes limit S → AreHeld processes limit (with_flock_mode S file d None)
unflocked_held processes limit S file d h = flock_held processes limit S file d None h (λ m is. absurd (let bad : None ≡ Some m = is in cc))

lock_of_held : (processes limit : ℕ) (family : Family) (owner : Owner) (S : State) (wait : Wait) → AreHeld processes limit S
    → HasOpen S.descriptors wait.file owner → wait.span.last ≤ OFFMAX → AreHeld processes limit (with_lock_of family owner S wait)
lock_of_held processes limit Bytes owner S wait h has within = set_held processes limit S wait.file owner wait.span (Some wait.mode) h (λ m is. (has, within))
lock_of_held processes limit Whole (Description d) S wait h has within = flock_held processes limit S wait.file d (Some wait.mode) h (λ m is. has)
lock_of_held processes limit Whole (Process p) S wait h has within = h

pub lock_held : (processes limit : ℕ) (S : State) (wait : Wait) → AreHeld processes limit S → IsHolding S.descriptors wait
    → AreHeld processes limit (with_lock S wait)
lock_held processes limit S wait h holding =
    lock_of_held processes limit wait.family wait.owner S wait h (open_of S.descriptors wait.p wait.file wait.owner holding.holder) holding.within

-- nobody loses a lock by it
pub lock_of_keeps : (family : Family) (owner : Owner) (S : State) (wait : Wait) → Keeps S (with_lock_of family owner S wait)
lock_of_keeps Bytes owner S wait = record {
  bytes = λ f o byte some is.
      let change : Change = record { file = wait.file; owner = owner; span = wait.span; mode = Some wait.mode } in
      some_if (sets_byte change f o byte) wait.mode (mode_in S.changes f o byte) some (sym (mode_push None S.changes change f o byte) ∙ is);
  flocks = λ f d some. some;
}
lock_of_keeps Whole (Description d) S wait = record {
  bytes = λ f o byte some. some;
  flocks = λ f e some is.
      some_if ((wait.file == f) && (d == e)) wait.mode (flock_mode_in S.flock_changes f e) some
      (sym (flock_push None S.flock_changes (record { file = wait.file; description = d; mode = Some wait.mode }) f e) ∙ is);
}
lock_of_keeps Whole (Process p) S wait = record { bytes = λ f o byte some. some; flocks = λ f d some. some }

pub lock_keeps : (S : State) (wait : Wait) → Keeps S (with_lock S wait)
lock_keeps S wait = lock_of_keeps wait.family wait.owner S wait

pub keeps_then : (S T U : State) → Keeps S T → Keeps T U → Keeps S U
keeps_then S T U first second = record {
  bytes = λ f o byte some. second.bytes f o byte (first.bytes f o byte some);
  flocks = λ f d some. second.flocks f d (first.flocks f d some);
}

pub keeps_all : (S : State) → Keeps S S
keeps_all S = record { bytes = λ f o byte some. some; flocks = λ f d some. some }

-- ---- waits

-- the caller waits, with its file open for the owner of the lock
pub waits_held : (processes limit : ℕ) (S : State) (wait : Wait) (grants : List Note) (outcome : Outcome) → AreHeld processes limit S
    → IsHolding S.descriptors wait → S.states wait.p ≡ Live → outcome ≡ waits_then S wait grants → AreHeld processes limit outcome.after
waits_held processes limit S wait grants outcome h holding live is =
    subst (λ (o : Outcome). AreHeld processes limit o.after) (sym is)
    (record {
      bytes = h.bytes;
      flocks = h.flocks;
      waits = each_append (IsHolding S.descriptors) S.waits (wait ∷ []) h.waits (holding, tt);
      descriptors = λ p fd d refers.
          let opening = h.descriptors p fd d refers in
          record { within = opening.within; alive = still (p) opening.alive; opened = opening.opened; made = opening.made };
      numbered = λ p alive. by_process p (cases_eq p wait.p) alive;
    })
  where
    still : (p : ℕ) → is_alive (S.states p) ≡ true → is_alive (if p == wait.p then Waiting else S.states p) ≡ true
    still p alive = at (p == wait.p)
      where
        at : (b : Bool) → is_alive (if b then Waiting else S.states p) ≡ true
        at true = refl
        at false = alive

    by_process : (p : ℕ) → (p ≡ wait.p) ⊎ (p ≢ wait.p) → is_alive (if p == wait.p then Waiting else S.states p) ≡ true → (1 ≤ p) × (p ≤ processes)
    by_process p (inl same) alive =
        subst (λ (q : ℕ). (1 ≤ q) × (q ≤ processes)) (sym same) (h.numbered wait.p (ap is_alive live))
    by_process p (inr differs) alive =
        h.numbered p (subst (λ (b : Bool). is_alive (if b then Waiting else S.states p) ≡ true) (ne_eqb p wait.p differs) alive)

-- a wait is granted
granted_held : (processes limit : ℕ) (S : State) (before : List Wait) (wait : Wait) (after : List Wait) → S.waits ≡ before ++ wait ∷ after
    → AreStanding S → AreHeld processes limit S → AreHeld processes limit (granted S before wait after)
granted_held processes limit S before wait after place standing h =
    let all = each_middle (IsHolding S.descriptors) before wait after (subst (Each (IsHolding S.descriptors)) place h.waits) in
    let waiting = (each_middle (IsSuspended S.states) before wait after (subst (Each (IsSuspended S.states)) place standing.waiting)).0.waiting in
    by_lock (with_lock S wait) (lock_held processes limit S wait h all.0) (lock_same S wait) all.1 waiting
  where
    lock_same : (S : State) (wait : Wait) → ((with_lock S wait).descriptors ≡ S.descriptors) × ((with_lock S wait).states ≡ S.states)
    lock_same S wait = grind (arith, common_steps)

    still : (U : State) (p : ℕ) → is_alive (U.states p) ≡ true → is_alive (if p == wait.p then Live else U.states p) ≡ true
    still U p alive = at (p == wait.p)
      where
        at : (b : Bool) → is_alive (if b then Live else U.states p) ≡ true
        at true = refl
        at false = alive

    by_process : (U : State) → AreHeld processes limit U → (U.descriptors ≡ S.descriptors) × (U.states ≡ S.states) → S.states wait.p ≡ Waiting
        → (p : ℕ) → (p ≡ wait.p) ⊎ (p ≢ wait.p) → is_alive (if p == wait.p then Live else U.states p) ≡ true → (1 ≤ p) × (p ≤ processes)
    by_process U held same waiting p (inl is) alive =
        subst (λ (q : ℕ). (1 ≤ q) × (q ≤ processes)) (sym is)
        (held.numbered wait.p (ap (λ (states : ℕ → ProcState). is_alive (states wait.p)) same.1 ∙ ap is_alive waiting))
    by_process U held same waiting p (inr differs) alive =
        held.numbered p (subst (λ (b : Bool). is_alive (if b then Live else U.states p) ≡ true) (ne_eqb p wait.p differs) alive)

    by_lock : (U : State) → AreHeld processes limit U → (U.descriptors ≡ S.descriptors) × (U.states ≡ S.states)
        → Each (IsHolding S.descriptors) (before ++ after) → S.states wait.p ≡ Waiting
        → AreHeld processes limit (with_process (record U { waits = before ++ after }) wait.p Live)
    by_lock U held same rest waiting = record {
      bytes = held.bytes;
      flocks = held.flocks;
      waits = subst (λ (D : Descriptors). Each (IsHolding D) (before ++ after)) (sym same.0) rest;
      descriptors = λ p fd d refers.
          let opening = held.descriptors p fd d refers in
          record { within = opening.within; alive = still U p opening.alive; opened = opening.opened; made = opening.made };
      numbered = λ p alive. by_process U held same waiting p (cases_eq p wait.p) alive;
    }

-- settling keeps all that, and nobody loses a lock by it
pub settles_held : (processes limit : ℕ) (policy : Policy) (S : State) (grants : List Note) (T : State) → Settles policy S grants T → AreStanding S
    → AreHeld processes limit S → AreHeld processes limit T
settles_held processes limit policy S [] T settles standing h = subst (AreHeld processes limit) (sym settles.1) h
settles_held processes limit policy S (grant ∷ grants) T (before, wait, after, next, is, rest) standing h =
    settles_held processes limit policy (granted S before wait after) grants T rest (granted_stand S before wait after next.place standing)
    (granted_held processes limit S before wait after next.place standing h)

pub settles_keep : (policy : Policy) (S : State) (grants : List Note) (T : State) → Settles policy S grants T → Keeps S T
settles_keep policy S [] T settles = subst (Keeps S) (sym settles.1) (keeps_all S)
settles_keep policy S (grant ∷ grants) T (before, wait, after, next, is, rest) =
    let lock = lock_keeps S wait in
    keeps_then S (granted S before wait after) T (record { bytes = lock.bytes; flocks = lock.flocks })
    (settles_keep policy (granted S before wait after) grants T rest)
