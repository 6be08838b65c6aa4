-- The table of the parts of a state's export is in that state: for `Parts::table`.
use Rattle.lock_server.proofs.Common.{ℕ, ◌≡◌, ◌≢◌, ◌∙◌, ◌<◌, sym, ap, subst, refl, arith, inl, inr, true, false, All, Any, Option, Some, None, List, [], ◌∷◌, ◌++◌, get_or, length, map, take, ◌&&◌, cases_eq, eq-eqb, eqb-true, nat_tests, length-map, get_or_from_slice_get, slice_get_within}
use Rattle.lock_server.proofs.Common.{Mode, Span, is_covered, Covers, FlockLock, Lock, Pending, FilePart, Parts, FileState, SameFile, SameLocks, AreOf, JoinsAll, SetsAll, SaysFile, IsByteLock, IsFlockLock, CrossesEach, JoinsEach, QueuesEach, SetsEach, flock_lock_request, lock_request, IsCompatible, IsSettled, HasDetected, IsDetectedOf, SameState, State, opening}
use Rattle.std.specs.Prelude.{◌==◌, Contains}
use Rattle.std.proofs.lemmas.List.Elements.{All-map, All-take}
use Rattle.std.proofs.Math.ListN.{get_or-map}
use Rattle.lock_server.specs.Importing.{AreFilesOf, HasLocksAlone, HasWaitsOf}
use Rattle.lock_server.specs.Reading.{entry_of}
use Rattle.lock_server.specs.Restoring.{AreCompatible, AreSettled, SetsBefore}
use Rattle.lock_server.proofs.CompatibleLemmas.{hit}
use Rattle.lock_server.proofs.ExportLaws.{flag_same}
use Rattle.lock_server.proofs.JustLemmas.{All-at, All-from, Contains-nil}
use Rattle.lock_server.proofs.OrderedLemmas.{Contains-map}
use Rattle.lock_server.proofs.RebuiltLemmas.{AllOf, HasFewer, HasOf, IsOf, IsThere, Point, by_flock, fewer_all, fewer_each, is_wanted_at, mode_at, none_held, on_byte, there_all}
use Rattle.lock_server.proofs.RejoinedLemmas.{all_joined, alone_all, alone_opening, not_true, part_or_none}
use Rattle.lock_server.proofs.StateLemmas.{SameFile-then, file_from_same}

-- the locks that a part tells are those of the file

lock_of : (F : FileState) (lock : Lock) → IsByteLock F lock → IsOf F (lock_request lock)
lock_of F lock run = record { at = at }
  where
    at : (p : Point) → is_wanted_at (lock_request lock) p ≡ true → mode_at F p ≡ Some lock.mode
    at (on_byte owner byte) there =
        let hits = hit lock.owner lock.span owner byte there in
        subst (λ (o : ℕ). F.bytes o byte ≡ Some lock.mode) hits.is (run.constant byte hits.covered)
    at (by_flock owner) there = let no : false ≡ true = there in absurd (cc)

flock_of : (F : FileState) (lock : FlockLock) → IsFlockLock F lock → IsOf F (flock_lock_request lock)
flock_of F lock has = record { at = at }
  where
    at : (p : Point) → is_wanted_at (flock_lock_request lock) p ≡ true → mode_at F p ≡ Some lock.mode
    at (on_byte owner byte) there = let no : false ≡ true = there in absurd (cc)
    at (by_flock owner) there = subst (λ (o : ℕ). F.flocks o ≡ Some lock.mode) (eqb-true lock.owner owner there) has

pub has_of : (S : State) (part : FilePart) → SaysFile (S.files part.number) (entry_of part) → HasOf S part
has_of S part says =
    let F = S.files part.number in
    record {
      locks = All-map (IsOf F) lock_request part.locks.items
          (All-from (λ lock. IsOf F (lock_request lock)) part.locks.items (λ lock among. lock_of F lock ((says.locks.just.each lock).0 among)));
      flocks = All-map (IsOf F) flock_lock_request part.flocks.items
          (All-from (λ lock. IsOf F (flock_lock_request lock)) part.flocks.items (λ lock among. flock_of F lock ((says.flocks.each lock).0 among)));
    }

Any-mapped : {X Y : Type 0} (f : X → Y) (P : Y → Type 0) (xs : List X) → Any (λ x. P (f x)) xs → Any P (map f xs)
Any-mapped f P xs (k, x, within, is, holds) = (k, f x, (let long = length-map xs f in omega arith), get_or-map f xs k x ∙ ap f is, holds)

Any-among : {X : Type 0} (P : X → Type 0) (xs : List X) (x : X) → Contains xs x → P x → Any P xs
Any-among P xs x (k, within, is) holds = (k, x, within, is, holds)

Any-for : {X : Type 0} (P Q : X → Type 0) → ((x : X) → P x → Q x) → (xs : List X) → Any P xs → Any Q xs
Any-for P Q weaker xs (k, x, within, is, holds) = (k, x, within, is, weaker x holds)

wanted : (one owner : ℕ) (span : Span) (byte : ℕ) → one ≡ owner → Covers span byte → (one == owner && is_covered span byte) ≡ true
wanted one owner span byte mine covered = grind (arith, nat_tests)

module _ (S : State) (parts : List FilePart) (of : AreFilesOf S parts) where
  all_of : All (HasOf S) parts
  all_of k d within = has_of S _ (of.says k d within)

  -- a lock of the state is told by a part
  there_of : (part : FilePart) → SaysFile (S.files part.number) (entry_of part) → (p : Point) (mode : Mode) → mode_at (S.files part.number) p ≡ Some mode
      → IsThere part.number p part
  there_of part says (on_byte owner byte) mode is = record {
    number = refl;
    among = inl (Any-mapped lock_request (λ wanted. is_wanted_at wanted (on_byte owner byte) ≡ true) part.locks.items
        (Any-for (λ lock. (lock.owner ≡ owner) × (lock.mode ≡ mode) × Covers lock.span byte)
        (λ lock. is_wanted_at (lock_request lock) (on_byte owner byte) ≡ true)
        (λ lock facts. wanted lock.owner owner lock.span byte facts.0 facts.2) part.locks.items (says.locks.all owner byte mode is)));
  }
  there_of part says (by_flock owner) mode is =
      let lock : FlockLock = record { owner = owner; mode = mode } in
      record {
        number = refl;
        among = inr (Any-mapped flock_lock_request (λ wanted. is_wanted_at wanted (by_flock owner) ≡ true) part.flocks.items
            (Any-among (λ l. is_wanted_at (flock_lock_request l) (by_flock owner) ≡ true) part.flocks.items lock ((says.flocks.each lock).1 is) (eq-eqb owner owner refl)));
      }

  none_there : (file : ℕ) → All (λ part. part.number ≢ file) parts → (p : Point) (mode : Mode) → ¬ (mode_at (S.files file) p ≡ Some mode)
  none_there file none (on_byte owner byte) mode is =
      let no : None ≡ Some mode = (of.others file none).locks.bytes owner byte ∙ is in cc
  none_there file none (by_flock owner) mode is =
      let no : None ≡ Some mode = (of.others file none).locks.flocks owner ∙ is in cc

  told_there : (file : ℕ) (p : Point) (mode : Mode) → mode_at (S.files file) p ≡ Some mode → Any (IsThere file p) parts
  told_there file p mode is = elim (part_or_none file parts) [
    | inl found ↦ subst (λ (f : ℕ). Any (IsThere f p) parts) found.2 (Any-among (IsThere found.0.number p) parts found.0 found.1
        (there_of found.0 (All-at (λ part. SaysFile (S.files part.number) (entry_of part)) parts of.says found.0 found.1) p mode
        (subst (λ (f : ℕ). mode_at (S.files f) p ≡ Some mode) (sym found.2) is)))
    | inr none ↦ absurd (none_there file none p mode is)
  ]

  module _ (start : State) (opened : SameState opening start) where
    pub fewer_start : HasFewer start S
    unfolding opening
    fewer_start file (on_byte owner byte) mode is = let no : None ≡ Some mode = sym ((opened.files file).locks.bytes owner byte) ∙ is in absurd (cc)
    fewer_start file (by_flock owner) mode is = let no : None ≡ Some mode = sym ((opened.files file).locks.flocks owner) ∙ is in absurd (cc)

    -- all locks of the state are set, and no others
    modes_restored : (locked : State) → SetsAll start parts locked → (file : ℕ) (p : Point) → mode_at (locked.files file) p ≡ mode_at (S.files file) p
    modes_restored locked sets file p = either (mode_at (S.files file) p) refl
      where
        none_more : (held : Option Mode) → mode_at (locked.files file) p ≡ held → mode_at (S.files file) p ≡ None → held ≡ None
        none_more None is none = refl
        none_more (Some mode) is none =
            let more = fewer_all S start parts locked all_of sets fewer_start file p mode is in
            let no : Some mode ≡ None = sym more ∙ none in absurd (cc)

        either : (held : Option Mode) → mode_at (S.files file) p ≡ held → mode_at (locked.files file) p ≡ mode_at (S.files file) p
        either (Some mode) is = there_all S start parts locked all_of sets file p (told_there file p mode is)
        either None is = none_more (mode_at (locked.files file) p) refl is ∙ sym is

    pub locks_restored : (locked : State) → SetsAll start parts locked → (file : ℕ) → SameLocks (S.files file) (locked.files file)
    locks_restored locked sets file = record {
      bytes = λ owner byte. modes_restored locked sets file (on_byte owner byte);
      flocks = λ owner. modes_restored locked sets file (by_flock owner);
    }

-- locks stay as waits join, and nobody comes to be crossed

SameLocks-then : (F G H : FileState) → SameLocks F G → SameLocks G H → SameLocks F H
SameLocks-then F G H one other = record {
  bytes = λ owner byte. other.bytes owner byte ∙ one.bytes owner byte;
  flocks = λ owner. other.flocks owner ∙ one.flocks owner;
}

-- what stays as waits join
pub record Stays (S T : State) : Type 0 where
  pub locks : (file : ℕ) → SameLocks (S.files file) (T.files file)
  pub crossed : ((owner : ℕ) → S.crossed owner ≡ false) → (owner : ℕ) → T.crossed owner ≡ false

Stays-then : (S T U : State) → Stays S T → Stays T U → Stays S U
Stays-then S T U one other = record {
  locks = λ file. SameLocks-then (S.files file) (T.files file) (U.files file) (one.locks file) (other.locks file);
  crossed = λ none. other.crossed (one.crossed none);
}

stays_same : (S T : State) → SameState S T → Stays S T
stays_same S T same = record { locks = λ file. (same.files file).locks; crossed = λ none owner. same.crossed owner ∙ none owner }

stays_each : (S : State) (file : ℕ) (waits : List Pending) (T : State) → JoinsEach S file waits T → Stays S T
stays_each S file [] T same = stays_same S T same
stays_each S file (wait ∷ waits) T (between, free, suspends, more) =
    Stays-then S between T
    (record {
      locks = λ other. elim (cases_eq other file) [
        | inl here ↦ subst (λ (f : ℕ). SameLocks (S.files f) (between.files f)) (sym here) suspends.joins.locks
        | inr differs ↦ (suspends.changes.others other differs).locks
      ];
      crossed = λ none owner. not_true (between.crossed owner) (λ is. elim ((suspends.changes.crossed owner).0 is).1 [
        | inl was ↦ (let no : false ≡ true = sym (none owner) ∙ was in cc)
        | inr given ↦ Contains-nil owner given
      ]);
    })
    (stays_each between file waits T more)

pub stays_all : (S : State) (parts : List FilePart) (T : State) → JoinsAll S parts T → Stays S T
stays_all S [] T same = stays_same S T same
stays_all S (part ∷ parts) T (between, joins, more) =
    Stays-then S between T (stays_each S part.number part.waits.items between joins) (stays_all between parts T more)

module _ (S : State) (parts : Parts) (of : AreOf S parts) (start locked joined queued : State) (opened : SameState opening start)
    (sets : SetsAll start parts.files.items locked) (joins : JoinsAll locked parts.files.items joined)
    (queues : QueuesEach joined parts.grants.items queued) where
  pub locked_alone : HasLocksAlone locked
  locked_alone = alone_all start parts.files.items locked sets (alone_opening start opened)

  pub joined_has : HasWaitsOf S joined
  joined_has = all_joined S parts.files.items of.files locked locked_alone joined joins

  stays : Stays locked joined
  stays = stays_all locked parts.files.items joined joins

  pub files_restored : (file : ℕ) → SameFile (S.files file) (queued.files file)
  files_restored file = SameFile-then (S.files file) (joined.files file) (queued.files file) (record {
    locks = SameLocks-then (S.files file) (locked.files file) (joined.files file)
        (locks_restored S parts.files.items of.files start opened locked sets file) (stays.locks file);
    waits = joined_has.waits file;
  }) (queues.files file)

  pub settled_restored : AreSettled parts.rules.policy queued
  settled_restored file =
      subst (λ (F : FileState). IsSettled parts.rules.policy F) (sym (file_from_same (S.files file) (queued.files file) (files_restored file))) (of.safe.settled file)

  module _ (T : State) (crosses : CrossesEach queued parts.crossed.items T) where
    files_same : (file : ℕ) → SameFile (S.files file) (T.files file)
    files_same file = SameFile-then (S.files file) (queued.files file) (T.files file) (files_restored file) (crosses.files file)

    detected_same : (owner : ℕ) → HasDetected S owner → HasDetected T owner
    detected_same owner has = record {
      file = has.file;
      among = subst (λ (waits : List Pending). Any (IsDetectedOf owner) waits) (sym (files_same has.file).waits) has.among;
    }

    pub restored : SameState S T
    restored = record {
      files = files_same;
      grants = crosses.grants ∙ queues.grants ∙ ap (λ (l : List ℕ). l ++ parts.grants.items) joined_has.grants ∙ of.grants;
      crossed = λ owner. flag_same (S.crossed owner) (T.crossed owner)
          (λ was. (crosses.crossed owner).1 (detected_same owner (of.waiting owner was), inr ((of.crossed owner).1 was)))
          (λ is. elim ((crosses.crossed owner).0 is).1 [
            | inl early ↦ absurd (let no : false ≡ true =
                sym (stays.crossed locked_alone.crossed owner) ∙ sym (queues.crossed owner) ∙ early in cc)
            | inr among ↦ (of.crossed owner).0 among
          ]);
    }

-- no lock of a state without conflicts is held back by those before it

All-unmap : {X Y : Type 0} (f : X → Y) (P : Y → Type 0) (xs : List X) → All P (map f xs) → All (λ x. P (f x)) xs
All-unmap f P xs all = All-from (λ x. P (f x)) xs (λ x among. All-at P (map f xs) all (f x) (Contains-map f xs x among))

none_stops : {X : Type 0} (as_request : X → Pending) (locks : List X) (S : State) (file : ℕ) (M : State) (place : ℕ) (N : State)
    → All (IsOf (S.files file)) (map as_request locks) → IsCompatible (S.files file) → HasFewer M S → SetsBefore as_request M file locks place N → ⊥
none_stops as_request locks S file M place N of compatible fewer stops =
    let each = All-unmap as_request (IsOf (S.files file)) locks of in
    let there = slice_get_within locks place stops.next stops.at in
    let next : IsOf (S.files file) (as_request stops.next) =
    All-at (λ lock. IsOf (S.files file) (as_request lock)) locks each stops.next
    (place, there, get_or_from_slice_get locks place stops.next stops.next stops.at) in
    let before : AllOf S file (map as_request (take place locks)) =
    All-map (IsOf (S.files file)) as_request (take place locks) (All-take (λ lock. IsOf (S.files file) (as_request lock)) place locks each) in
    let fewer_now = fewer_each S file M (map as_request (take place locks)) N before stops.sets fewer in
    none_held (N.files file) (S.files file) (λ p mode is. fewer_now file p mode is) compatible (as_request stops.next) next stops.held_back

module _ (S : State) (parts : List FilePart) (of : AreFilesOf S parts) (compatible : AreCompatible S) (start : State) (opened : SameState opening start)
    (i : ℕ) (d : FilePart) (within : i < length parts) (M : State) (sets : SetsAll start (take i parts) M) where
  fewer_before : HasFewer M S
  fewer_before = fewer_all S start (take i parts) M (All-take (HasOf S) i parts (all_of S parts of)) sets (fewer_start S parts of start opened)

  part_of : HasOf S (get_or parts i d)
  part_of = all_of S parts of i d within

  pub lock_held : (place : ℕ) (N : State) → SetsBefore lock_request M (get_or parts i d).number (get_or parts i d).locks.items place N → ⊥
  lock_held place N stops =
      let part = get_or parts i d in
      none_stops lock_request part.locks.items S part.number M place N part_of.locks (compatible part.number) fewer_before stops

  pub flock_held : (B : State) → SetsEach M (get_or parts i d).number (map lock_request (get_or parts i d).locks.items) B → (place : ℕ) (N : State)
      → SetsBefore flock_lock_request B (get_or parts i d).number (get_or parts i d).flocks.items place N → ⊥
  flock_held B locks place N stops =
      let part = get_or parts i d in
      none_stops flock_lock_request part.flocks.items S part.number B place N part_of.flocks (compatible part.number)
      (fewer_each S part.number M (map lock_request part.locks.items) B part_of.locks locks fewer_before) stops
