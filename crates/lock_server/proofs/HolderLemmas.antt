-- What the owners of a client have, by the files with which they are kept: for the calls named `forget_owners`, `has_locks` and `counts`.
use Rattle.lock_server.proofs.Common.{ℕ, ◌≡◌, ◌+◌, ◌<◌, ◌≤◌, ◌∙◌, inl, inr, sym, ap, subst, refl, arith, cond, true, false, not, Bool, Option, Some, None, List, [], ◌∷◌, All, get_or, length, if◌then◌else◌, IfNone, IfSome, IsTrue, filter, cases_lt, cases_eq, All-head, All-tail}
use Rattle.lock_server.proofs.Common.{Policy, Pending, Holdings, HaveLocks, HaveLocksOn, StripsFile, is_within, flock_locks_on, lock_of, runs_of, runs_on, waits_on, FileState, SameFile, HasNothing, keeps, IsSettled, State}
use Rattle.std.specs.Prelude.{◌⊎◌}
use Rattle.lock_server.specs.HoldingsView.{AreUnkept, HasNoneOf, IsBelow, KeepsHolders}
use Rattle.lock_server.specs.OpeningsView.{IsAbove}
use Rattle.lock_server.proofs.ClearedLemmas.{within_ends}
use Rattle.lock_server.proofs.ClientLemmas.{settled_untouched, stripped_one}
use Rattle.lock_server.proofs.CountLemmas.{no_runs, not_counted, sum_none}
use Rattle.lock_server.proofs.ForgetLemmas.{filter_all}
use Rattle.lock_server.proofs.HasLockLemmas.{OneWithin, is_one, no_byte_lock, no_flock_lock}
use Rattle.lock_server.proofs.HoldingLemmas.{untouched_nothing}
use Rattle.lock_server.proofs.StateLemmas.{file_from_same}

-- of the owners from first to last none has anything on the file
abbrev pub HaveNothing : FileState → ℕ → ℕ → Type 0
HaveNothing F first last = (owner : ℕ) → IsTrue (is_within first last owner) → HasNothing F owner

-- a file that need not be looked at, in a state that is the same there
pub passed_nothing : (holdings : Holdings) (first last : ℕ) (S M : State) (file : ℕ) → KeepsHolders holdings S → SameFile (S.files file) (M.files file)
    → HasNoneOf holdings first last M file → HaveNothing (M.files file) first last
passed_nothing holdings first last S M file kept same (inl unkept) owner within =
    subst (λ (F : FileState). HasNothing F owner) (sym (file_from_same (S.files file) (M.files file) same)) (kept.nothing owner file (unkept owner within))
passed_nothing holdings first last S M file kept same (inr nobody) owner within = untouched_nothing (M.files file) nobody owner

none_goes : (test : Bool) {X : Type 0} (was : Option X) → (test ≡ true → was ≡ None) → was ≡ (if test then None else was)
none_goes true was none = none refl
none_goes false was none = refl

not_gone : (test : Bool) → (test ≡ true → ⊥) → IsTrue (not test)
not_gone true never = absurd (never refl)
not_gone false never = refl

-- there nothing goes
pub nothing_goes : (F : FileState) (first last : ℕ) → HaveNothing F first last → StripsFile F (is_within first last) F
nothing_goes F first last nothing = record {
  locks = record {
    bytes = λ owner byte. none_goes (is_within first last owner) (F.bytes owner byte) (λ within. (nothing owner within).lock.bytes byte);
    flocks = λ owner. none_goes (is_within first last owner) (F.flocks owner) (λ within. (nothing owner within).lock.flocks);
  };
  waits = sym (filter_all (λ wait. not (is_within first last wait.owner)) F.waits
      (λ k d inside. not_gone (is_within first last (get_or F.waits k d).owner) (λ within. (nothing (get_or F.waits k d).owner within).waits k d inside refl)));
}

-- and the waits there stay blocked
pub settled_still : (policy : Policy) (F G : FileState) (first last : ℕ) → HaveNothing F first last → StripsFile F (is_within first last) G → IsSettled policy F
    → IsSettled policy G
settled_still policy F G first last nothing strips settled =
    subst (λ (H : FileState). IsSettled policy H)
    (sym (file_from_same F G (stripped_one F (is_within first last) F G (nothing_goes F first last nothing) strips))) settled

pub passed_settled : (policy : Policy) (holdings : Holdings) (first last : ℕ) (S M : State) (file : ℕ)
    → (AreUnkept holdings first last file → IsSettled policy (S.files file)) → SameFile (S.files file) (M.files file)
    → HasNoneOf holdings first last M file → IsSettled policy (M.files file)
passed_settled policy holdings first last S M file settled same (inl unkept) =
    subst (λ (F : FileState). IsSettled policy F) (sym (file_from_same (S.files file) (M.files file) same)) (settled unkept)
passed_settled policy holdings first last S M file settled same (inr nobody) = settled_untouched policy (M.files file) nobody

-- nor is anything counted
pub runs_of_none : (F : FileState) (first last : ℕ) → HaveNothing F first last → runs_on first last F ≡ 0
runs_of_none F first last nothing =
    sum_none (last + 1) (λ owner. if is_within first last owner then runs_of (F.bytes owner) else 0)
    (λ owner. not_counted first last (λ other. runs_of (F.bytes other)) owner (λ within. no_runs (F.bytes owner) (nothing owner within).lock.bytes))

pub flock_locks_of_none : (F : FileState) (first last : ℕ) → HaveNothing F first last → flock_locks_on first last F ≡ 0
flock_locks_of_none F first last nothing =
    sum_none (last + 1) (λ owner. if is_within first last owner then lock_of (F.flocks owner) else 0)
    (λ owner. not_counted first last (λ other. lock_of (F.flocks other)) owner (λ within. ap lock_of (nothing owner within).lock.flocks))

none_left : (p : Pending → Bool) (waits : List Pending) → All (λ wait. p wait ≡ false) waits → length (filter p waits) ≡ 0
none_left p [] none = refl
none_left p (wait ∷ waits) none =
    ap (λ (b : Bool). length (cond b (wait ∷ filter p waits) (filter p waits))) (All-head (λ w. p w ≡ false) wait waits none)
    ∙ none_left p waits (All-tail (λ w. p w ≡ false) wait waits none)

is_false : (test : Bool) → (test ≡ true → ⊥) → test ≡ false
is_false true never = absurd (never refl)
is_false false never = refl

pub waits_of_none : (F : FileState) (first last : ℕ) → HaveNothing F first last → waits_on first last F ≡ 0
waits_of_none F first last nothing =
    none_left (λ wait. is_within first last wait.owner) F.waits
    (λ k d inside. is_false (is_within first last (get_or F.waits k d).owner) (λ within. (nothing (get_or F.waits k d).owner within).waits k d inside refl))

-- who has nothing on a file has no lock there
pub nothing_no_lock : (F : FileState) (owner : ℕ) → HasNothing F owner → ¬ HaveLocksOn F owner owner
nothing_no_lock F owner nothing have =
    let ends = within_ends owner owner have.owner have.within in
    let is : owner ≡ have.owner = omega (arith, ends) in
    let same = subst (λ (o : ℕ). HasNothing F o) is nothing in
    elim have.has [
      | inl byte ↦ no_byte_lock F have.owner same.lock.bytes byte
      | inr flock ↦ no_flock_lock F have.owner same.lock.flocks flock
    ]

-- owners have locks where one of them has some
alone_on : (F : FileState) (owner : ℕ) (first last : ℕ) → IsTrue (is_within first last owner) → HaveLocksOn F owner owner → HaveLocksOn F first last
alone_on F owner first last within have =
    let ends = within_ends owner owner have.owner have.within in
    let is : owner ≡ have.owner = omega (arith, ends) in
    record { owner = have.owner; within = subst (λ (o : ℕ). IsTrue (is_within first last o)) is within; has = have.has }

pub one_has_locks : (S : State) (first last owner : ℕ) → IsTrue (is_within first last owner) → HaveLocks S owner owner → HaveLocks S first last
one_has_locks S first last owner within have = record { file = have.file; on_file = alone_on (S.files have.file) owner first last within have.on_file }

pub have_locks_one : (S : State) (first last : ℕ) → HaveLocks S first last → OneWithin first last (λ owner. HaveLocks S owner owner)
have_locks_one S first last have = (
  have.on_file.owner,
  have.on_file.within,
  record { file = have.file; on_file = record { owner = have.on_file.owner; within = itself have.on_file.owner; has = have.on_file.has } },
)
  where
    itself : (owner : ℕ) → IsTrue (is_within owner owner owner)
    itself owner = is_one owner owner owner (omega arith) (omega arith)

-- below the least file that was found, and above that one, none of the owners from the first one on that are below a number is kept with a file
pub record IsLeastFile (holdings : Holdings) (first next : ℕ) (above least : Option ℕ) : Type 0 where
  pub behind : first ≤ next
  pub found : IfSome least (λ file. IsAbove above file)
  pub unkept : (owner file : ℕ) → first ≤ owner → owner < next → IsAbove above file → IsBelow least file → keeps holdings owner file ≡ false

pub least_none : (holdings : Holdings) (first next : ℕ) (above : Option ℕ) → next ≡ first → IsLeastFile holdings first next above None
least_none holdings first next above is =
    record { behind = omega (arith, is); found = tt; unkept = λ owner file from before past below. absurd (omega (arith, is, from, before)) }

-- no file below the owner's least one is the owner's
pub own_unkept : (holdings : Holdings) (owner : ℕ) (above own : Option ℕ)
    → IfSome own (λ file. (other : ℕ) → IsAbove above other → other < file → keeps holdings owner other ≡ false)
    → IfNone own ((file : ℕ) → IsAbove above file → keeps holdings owner file ≡ false)
    → (file : ℕ) → IsAbove above file → IsBelow own file → keeps holdings owner file ≡ false
own_unkept holdings owner above None least none file past below = none file past
own_unkept holdings owner above (Some own) least none file past below = least file past below

-- the next owner's least file, and the lesser of the two
pub least_more : (holdings : Holdings) (first next owner : ℕ) (above least own lesser : Option ℕ) → IsLeastFile holdings first next above least → next ≤ owner
    → ((other file : ℕ) → next ≤ other → other < owner → keeps holdings other file ≡ false)
    → IfSome own (λ file. IsAbove above file)
    → ((file : ℕ) → IsAbove above file → IsBelow own file → keeps holdings owner file ≡ false)
    → (lesser ≡ least) ⊎ (lesser ≡ own) → ((number : ℕ) → IsBelow lesser number → IsBelow least number × IsBelow own number)
    → IsLeastFile holdings first (owner + 1) above lesser
least_more holdings first next owner above least own lesser so_far from between own_above own_least either both =
    let behind = so_far.behind in record {
      behind = omega arith;
      found = elim either [
        | inl is ↦ subst (λ (file : Option ℕ). IfSome file (λ f. IsAbove above f)) (sym is) so_far.found
        | inr is ↦ subst (λ (file : Option ℕ). IfSome file (λ f. IsAbove above f)) (sym is) own_above
      ];
      unkept = λ other file first_from before past below. elim (cases_lt other next) [
        | inl earlier ↦ so_far.unkept other file first_from earlier past (both file below).0
        | inr later ↦ elim (cases_eq other owner) [
          | inl is ↦ subst (λ (o : ℕ). keeps holdings o file ≡ false) (sym is) (own_least file past (both file below).1)
          | inr differs ↦ between other file later (omega (arith, before, differs))
        ]
      ];
    }

-- and then the least file of all
pub least_all : (holdings : Holdings) (first last next : ℕ) (above least : Option ℕ) → IsLeastFile holdings first next above least
    → ((owner file : ℕ) → next ≤ owner → owner ≤ last → keeps holdings owner file ≡ false)
    → (file : ℕ) → IsAbove above file → IsBelow least file → AreUnkept holdings first last file
least_all holdings first last next above least so_far rest file past below owner within =
    let ends = within_ends first last owner within in
    elim (cases_lt owner next) [
      | inl earlier ↦ so_far.unkept owner file ends.0 earlier past below
      | inr later ↦ rest owner file later ends.1
    ]

-- what is told of it
pub least_told : (holdings : Holdings) (first last : ℕ) (above least : Option ℕ)
    → ((file : ℕ) → IsAbove above file → IsBelow least file → AreUnkept holdings first last file)
    → IfSome least (λ file. (other : ℕ) → IsAbove above other → other < file → AreUnkept holdings first last other)
least_told holdings first last above None unkept = tt
least_told holdings first last above (Some file) unkept = λ other past before. unkept other past before

pub none_told : (holdings : Holdings) (first last : ℕ) (above least : Option ℕ)
    → ((file : ℕ) → IsAbove above file → IsBelow least file → AreUnkept holdings first last file)
    → IfNone least ((file : ℕ) → IsAbove above file → AreUnkept holdings first last file)
none_told holdings first last above None unkept = λ file past. unkept file past tt
none_told holdings first last above (Some file) unkept = tt

-- what is passed over for one reason, by the files below the one that was found, and by all where none was
pub least_then : (P Q : ℕ → Type 0) (above found : Option ℕ) → ((file : ℕ) → P file → Q file)
    → IfSome found (λ file. (other : ℕ) → IsAbove above other → other < file → P other)
    → IfSome found (λ file. (other : ℕ) → IsAbove above other → other < file → Q other)
least_then P Q above None more said = tt
least_then P Q above (Some file) more said = λ other past before. more other (said other past before)

pub none_then : (P Q : ℕ → Type 0) (above found : Option ℕ) → ((file : ℕ) → P file → Q file)
    → IfNone found ((file : ℕ) → IsAbove above file → P file) → IfNone found ((file : ℕ) → IsAbove above file → Q file)
none_then P Q above None more said = λ file past. more file (said file past)
none_then P Q above (Some file) more said = tt
