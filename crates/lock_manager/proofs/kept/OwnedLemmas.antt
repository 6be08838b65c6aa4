-- Only descriptions that some descriptor refers to have locks, each on its own file, and only processes wait for them that have them open: for
-- `Machine::new`.
use Rattle.lock_manager.proofs.Common.{common_steps, ℕ, ◌≡◌, ◌<◌, refl, sym, ◌∙◌, subst, List, [], length, Some, None, Option, Bool, true, Result, OnOk, OnErr, All, arith, ◌==◌, ◌&&◌, if◌then◌else◌, slice_get, slice_set, option_map, ∥∥₁_map, ∥∥₁_elim, same_Some}
use Rattle.lock_manager.proofs.Common.{Memory, Mode, Span, is_covered, Owner, Description, Book, is_same_owner, SetsOwnerMode, SameBook, Tables, Descriptors, description_numbered, opening_descriptors, StandFor, Wait, Locks, locks_of, IsOpenOn, MayWaitAs, AreOwned, AreWithinFiles, MayLock, HoldsNothing}
use Rattle.std.proofs.lemmas.List.Elements.{All-nil}
use Rattle.range_core.specs.Ranges.{IsByteRange}
use Rattle.fd_table.specs.TablesView.{Numbered, IsSeen, view_of}
use Rattle.lock_manager.specs.DescriptionLocks.{HasOpenOn, AreOfHolders, AreOfOpenDescriptions}
use Rattle.lock_manager.proofs.kept.BookLemmas.{after_set, unlocked_bytes, unlocked_flocks}
use Rattle.lock_manager.proofs.kept.SafetyLemmas.{hit}

-- each description that a process has open on a file stays so
abbrev pub StayOpen : Descriptors → Descriptors → Type 0
StayOpen D E = (file d p : ℕ) → HasOpenOn D p file d → HasOpenOn E p file d

-- so what is open on a file stays so
still_open : (D E : Descriptors) → StayOpen D E → (file d : ℕ) → IsOpenOn D file d → IsOpenOn E file d
still_open D E stay file d is =
    let has = stay file d is.is_open.process (record { fd = is.is_open.fd; refers = is.is_open.refers; of_file = is.of_file }) in
    record { is_open = record { process = is.is_open.process; fd = has.fd; refers = has.refers }; of_file = has.of_file }

-- who may wait still may, where what its process has open stays so
pub may_wait_more : (D E : Descriptors) (wait : Wait) (owner : Owner) → ((file d : ℕ) → HasOpenOn D wait.p file d → HasOpenOn E wait.p file d)
    → MayWaitAs D wait owner → MayWaitAs E wait owner
may_wait_more D E wait owner stay may = grind (arith, common_steps)

holders_more : (D E : Descriptors) (waits : List Wait) → StayOpen D E → AreOfHolders D waits → AreOfHolders E waits
holders_more D E waits stay h k d within = grind (arith, common_steps, may_wait_more)

-- what is seen of a descriptor is what both descriptors say of it
seen_by_both : (seen : Option Numbered) (D E : Descriptors) (p fd file d : ℕ) → IsSeen seen D p fd → IsSeen seen E p fd → D.description_of p fd ≡ Some d
    → option_map (λ opened. opened.file) (description_numbered D.descriptions d) ≡ Some file → HasOpenOn E p file d
seen_by_both seen D E p fd file d h h2 h3 h4 = grind (arith, common_steps, same_Some)

-- all descriptors that the tables stand for agree on what is open on which file
pub stay_open_in_all : (tables : Tables) (D E : Descriptors) → StandFor tables D → StandFor tables E → StayOpen D E
stay_open_in_all tables D E h k file d p is =
    seen_by_both ((view_of tables).seen p is.fd) D E p is.fd file d (h.seen p is.fd) (k.seen p is.fd) is.refers is.of_file

-- where what is open stays open, so does what holds of the locks
pub owned_more : (D E : Descriptors) (locks : Locks) → StayOpen D E → AreOfOpenDescriptions D locks → AreOfOpenDescriptions E locks
owned_more D E locks stay h =
    record {
      bytes = λ file d closed byte. h.bytes file d (λ is. closed (still_open D E stay file d is)) byte;
      flocks = λ file d closed. h.flocks file d (λ is. closed (still_open D E stay file d is));
    }

-- that there is no mode follows of what is known to be there
none_of_any : {A : Type 0} (mode : Option Mode) → ∥ A ∥₁ → (A → mode ≡ None) → mode ≡ None
none_of_any None there gives = refl
none_of_any (Some m) there gives = absurd (∥∥₁_elim there (λ x y. absurd x) (λ a. let none = gives a in cc))

-- it holds for each descriptors that the tables stand for
pub owned_in : (tables : Tables) (locks : Locks) (waits : List Wait) (E : Descriptors) → AreOwned tables locks waits → StandFor tables E
    → AreOfOpenDescriptions E locks
owned_in tables locks waits E owned stands =
    record {
      bytes = λ file d closed byte. none_of_any (locks.bytes file (Description d) byte) owned
          (λ given. (owned_more given.0 E locks (stay_open_in_all tables given.0 E given.1 stands) given.2).bytes file d closed byte);
      flocks = λ file d closed. none_of_any (locks.flocks file d) owned
          (λ given. (owned_more given.0 E locks (stay_open_in_all tables given.0 E given.1 stands) given.2).flocks file d closed);
    }

-- a call on descriptors after which what was open is open leaves what holds of the locks and the waits
pub owned_after : (old new : Tables) (locks : Locks) (waits : List Wait) → AreOwned old locks waits
    → ((D : Descriptors) → StandFor old D → (E : Descriptors) × StayOpen D E × StandFor new E) → AreOwned new locks waits
owned_after old new locks waits owned call =
    ∥∥₁_map owned (λ given.
    let after = call given.0 given.1 in
    (after.0, after.2, owned_more given.0 after.0 locks after.1 given.2, holders_more given.0 after.0 waits after.1 given.3))

-- who may lock the file has the file open
may_lock_on : (tables : Tables) (file : ℕ) (owner : Owner) (D : Descriptors) (d : ℕ) → StandFor tables D → MayLock tables file owner
    → owner ≡ Description d → ∥ IsOpenOn D file d ∥₁
may_lock_on tables file owner D d h h2 h3 = grind (arith, common_steps)

-- a mode that is set, or else what was none, is none
pub none_but_set : (is_it : Bool) (mode before : Option Mode) → (is_it ≡ true → ⊥) → before ≡ None → (if is_it then mode else before) ≡ None
none_but_set is_it mode before not_it none = grind (arith, common_steps)

-- one book's change by who may lock the file, refused or not
pub owned_set : (tables : Tables) (waits : List Wait) (books : List Book) (file : ℕ) (old new : Book) (owner : Owner) (span : Span)
    (mode : Option Mode) (result : Result (Unit {0}) Memory)
    → file < length books → slice_get books file ≡ Some old → MayLock tables file owner
    → OnOk result (SetsOwnerMode old new owner span mode) → OnErr result (SameBook old new)
    → AreOwned tables (locks_of books) waits → AreOwned tables (locks_of (slice_set books file new)) waits
owned_set tables waits books file old new owner span mode result within was may sets same owned =
    ∥∥₁_map owned (λ given. (
      given.0,
      given.1,
      after_set (AreOfOpenDescriptions given.0) books file old new owner span mode result within was sets same
          (λ bytes flocks. record {
            bytes = λ f d closed byte. bytes f (Description d) byte
                ∙ none_but_set ((file == f) && is_same_owner owner (Description d) && is_covered span byte) mode ((locks_of books).bytes f (Description d) byte)
                (λ e. let at = hit file owner span f (Description d) byte e in
                ∥∥₁_elim (may_lock_on tables file owner given.0 d given.1 may at.owner_is) (λ x y. absurd x)
                (λ is_open. closed (subst (λ g. IsOpenOn given.0 g d) at.file_is is_open)))
                (given.2.bytes f d closed byte);
            flocks = λ f d closed. flocks f d ∙ given.2.flocks f d closed;
          })
          (λ bytes flocks. record {
            bytes = λ f d closed byte. bytes f (Description d) byte ∙ given.2.bytes f d closed byte;
            flocks = λ f d closed. flocks f d ∙ given.2.flocks f d closed;
          }),
      given.3,
    ))

-- a change within a file, refused or not, leaves no lock past the largest offset
pub within_files_set : (books : List Book) (file : ℕ) (old new : Book) (owner : Owner) (span : Span) (mode : Option Mode) (result : Result (Unit {0}) Memory)
    → file < length books → slice_get books file ≡ Some old → IsByteRange span
    → OnOk result (SetsOwnerMode old new owner span mode) → OnErr result (SameBook old new)
    → AreWithinFiles (locks_of books) → AreWithinFiles (locks_of (slice_set books file new))
within_files_set books file old new owner span mode result within was range sets same before =
    after_set AreWithinFiles books file old new owner span mode result within was sets same
    (λ bytes flocks f o byte past. bytes f o byte
    ∙ none_but_set ((file == f) && is_same_owner owner o && is_covered span byte) mode ((locks_of books).bytes f o byte)
    (λ e. let at = hit file owner span f o byte e in omega (arith, at.covered, range)) (before f o byte past))
    (λ bytes flocks f o byte past. bytes f o byte ∙ before f o byte past)

-- what holds of each wait, where there is none
pub of_no_wait : (P : Wait → Type 0) (waits : List Wait) → waits ≡ [] → All P waits
of_no_wait P waits none = subst (λ ws. All P ws) (sym none) (All-nil P)

-- books that hold nothing, and no waits
pub owned_at_opening : (tables : Tables) (books : List Book) (waits : List Wait) → StandFor tables opening_descriptors → All HoldsNothing books → waits ≡ []
    → AreOwned tables (locks_of books) waits
owned_at_opening tables books waits opening empty none = grind (arith, common_steps, unlocked_bytes, unlocked_flocks, of_no_wait)
