-- What a whole call comes to is determined, and so what a run of calls does: for `replicas_agree`.
use Rattle.lock_server.proofs.Common.{arith, zero, suc, ℕ, ◌≡◌, ◌≢◌, ◌+◌, ◌<◌, ◌≤◌, ◌∙◌, inl, inr, sym, ap, subst, refl, true, false, Bool, Option, Some, None, List, [], ◌∷◌, ◌++◌, Any, Contains, append-nil, length, get_or, common_steps, cases_eq, cases_lt, eqb-true, Contains-append_cases, same_Some, ∥∥₁_elim, ⊥_prop, if◌then◌else◌}
use Rattle.lock_server.proofs.Common.{Mode, Span, Modes, IsRun, Owner, Process, Description, ByteModes, Policy, Lock, Pending, Through, ForgetsOn, IsStrangerOn, is_other_wait, FileState, by_owner, SameOpenings, SeesOn, owners_of, tickets_of, AreTicketsOnce, IsSettled, Settles, Crosses, SettlesFile, State}
use Rattle.std.proofs.Common.{AllPairs, length-append}
use Rattle.std.proofs.lemmas.Bool.{cases_order}
use Rattle.std.specs.Prelude.{◌==◌}
use Rattle.lock_book.specs.declared.Blocker.{Blocker}
use Rattle.lock_book.specs.Conflicts.{IsFirstBlocked, IsFirstBlocker}
use Rattle.lock_server.specs.Agreement.{GetComesTo}
use Rattle.lock_server.specs.Calls.{CancelComesTo, Cancels, Forgets, ForgetsIn, LeavesOn}
use Rattle.lock_server.specs.Closing.{Closes}
use Rattle.lock_server.specs.Locks.{as_blocker}
use Rattle.lock_server.specs.Openings.{ForgetsOwner, ForgetsThrough}
use Rattle.lock_server.specs.States.{WaitsOn}
use Rattle.lock_server.proofs.CrossLemmas.{contains_none, contains_other}
use Rattle.lock_server.proofs.ForgetLemmas.{filter_all}
use Rattle.lock_server.proofs.LeaveLemmas.{Any-at}
use Rattle.lock_server.proofs.OutcomeLaws.{none_next, split_one, state_one, then_settled_one, unchanged_one}
use Rattle.lock_server.proofs.StateLemmas.{SameFile-itself, SameFile-then, file_from_same}

-- the first lock in the way is one
one_byte : (modes : ByteModes) (owner : Owner) (span : Span) (wanted : Mode) (b c : ℕ) (one other : Owner)
    → IsFirstBlocked modes owner span wanted b one → IsFirstBlocked modes owner span wanted c other → b ≡ c
one_byte modes owner span wanted b c one other h k = grind (arith, common_steps, cases_order)

one_owner : (modes : ByteModes) (owner : Owner) (span : Span) (wanted : Mode) (b : ℕ) (one other : Owner)
    → IsFirstBlocked modes owner span wanted b one → IsFirstBlocked modes owner span wanted b other → one ≡ other
one_owner modes owner span wanted b one other h k = grind (arith, common_steps, cases_order)

one_mode : (modes : Modes) (byte : ℕ) (m k : Mode) (s t : Span) → IsRun modes byte m s → IsRun modes byte k t → m ≡ k
one_mode modes byte m k s t one other = same_Some m k (sym (one.constant byte one.covered) ∙ other.constant byte other.covered)

one_range : (modes : Modes) (byte : ℕ) (mode : Mode) (s t : Span) → IsRun modes byte mode s → IsRun modes byte mode t → s ≡ t
one_range modes byte mode s t one other = grind (arith, common_steps)

one_blocker : (modes : ByteModes) (owner : Owner) (span : Span) (wanted : Mode) (x y : Blocker) → IsFirstBlocker modes owner span wanted x
    → IsFirstBlocker modes owner span wanted y → x ≡ y
one_blocker modes owner span wanted x y h k = grind (arith, common_steps, one_byte, one_owner, one_mode, one_range)

abbrev number_in : Owner → ℕ
number_in (Process number) = number
number_in (Description number) = number

abbrev lock_in : Blocker → Lock
lock_in blocker = record { owner = number_in blocker.owner; mode = blocker.mode; span = blocker.span }

pub get_one : (F : FileState) (owner : ℕ) (span : Span) (mode : Mode) (found found' : Option Lock) → GetComesTo F owner span mode found
    → GetComesTo F owner span mode found' → found' ≡ found
get_one F owner span mode None None h k = refl
get_one F owner span mode None (Some lock') h k =
    absurd (h (record { byte = k.byte; covered = k.first.covered; other = Description lock'.owner; blocks = k.first.blocks }))
get_one F owner span mode (Some lock) None h k =
    absurd (k (record { byte = h.byte; covered = h.first.covered; other = Description lock.owner; blocks = h.first.blocks }))
get_one F owner span mode (Some lock) (Some lock') h k =
    ap (λ (blocker : Blocker). Some (lock_in blocker)) (one_blocker (by_owner F.bytes) (Description owner) span mode (as_blocker lock') (as_blocker lock) k h)

-- of the waits on a file one alone has the ticket
at_place : (before : List Pending) (wait : Pending) (after : List Pending) (d : Pending) → get_or (before ++ wait ∷ after) (length before) d ≡ wait
at_place [] wait after d = refl
at_place (x ∷ before) wait after d = at_place before wait after d

no_clash : (waits before : List Pending) (wait : Pending) (after before' : List Pending) (wait' : Pending) (after' : List Pending)
    → AllPairs (λ v w. v.ticket ≢ w.ticket) waits → waits ≡ before ++ wait ∷ after → waits ≡ before' ++ wait' ∷ after' → wait.ticket ≡ wait'.ticket
    → ¬ (length before < length before')
no_clash waits before wait after before' wait' after' apart one other same less =
    let here : get_or waits (length before) wait ≡ wait =
    subst (λ (l : List Pending). get_or l (length before) wait ≡ wait) (sym one) (at_place before wait after wait) in
    let there : get_or waits (length before') wait ≡ wait' =
    subst (λ (l : List Pending). get_or l (length before') wait ≡ wait') (sym other) (at_place before' wait' after' wait) in
    let size = ap (λ (l : List Pending). length l) other ∙ length-append before' (wait' ∷ after') in
    apart (length before) (length before') wait less (omega arith)
    (ap (λ (w : Pending). w.ticket) here ∙ same ∙ sym (ap (λ (w : Pending). w.ticket) there))

leaves_one : (S : State) (file ticket : ℕ) (T U : State) → AllPairs (λ v w. v.ticket ≢ w.ticket) (S.files file).waits → LeavesOn S file ticket T
    → LeavesOn S file ticket U → U ≡ T
leaves_one S file ticket T U apart one other =
    let waits = (S.files file).waits in
    let tickets = one.of_ticket ∙ sym other.of_ticket in
    let below = no_clash waits one.before one.wait one.after other.before other.wait other.after apart one.leaves.place other.leaves.place tickets in
    let above = no_clash waits other.before other.wait other.after one.before one.wait one.after apart other.leaves.place one.leaves.place (sym tickets) in
    let as_many : length one.before ≡ length other.before = elim (cases_lt (length one.before) (length other.before)) [
      | inl less ↦ absurd (below less)
      | inr past ↦ elim (cases_lt (length other.before) (length one.before)) [ inl less ↦ absurd (above less) | inr other_past ↦ omega arith ]
    ] in
    let same = split_one one.before one.wait one.after other.before other.wait other.after (sym one.leaves.place ∙ other.leaves.place) as_many in
    state_one S T U file [] one.changes.others other.changes.others
    (record {
      locks = record {
        bytes = λ any byte. other.leaves.locks.bytes any byte ∙ sym (one.leaves.locks.bytes any byte);
        flocks = λ any. other.leaves.locks.flocks any ∙ sym (one.leaves.locks.flocks any);
      };
      waits = other.leaves.waits ∙ ap (λ (l : List Pending). l ++ other.after) same.0 ∙ ap (λ (l : List Pending). one.before ++ l) same.2 ∙ sym one.leaves.waits;
    })
    (other.changes.grants ∙ sym one.changes.grants) one.changes.crossed other.changes.crossed

waits_there : (S : State) (file ticket : ℕ) (T : State) → LeavesOn S file ticket T → WaitsOn S file ticket
waits_there S file ticket T leaves = subst (λ (ws : List Pending). Any (λ w. w.ticket ≡ ticket) ws) (sym leaves.leaves.place)
    (Any-at (λ w. w.ticket ≡ ticket) leaves.before leaves.after leaves.wait leaves.of_ticket)

cancels_one : (policy : Policy) (S : State) (ticket : ℕ) (T U : State) → AreTicketsOnce S → Cancels policy S ticket T → Cancels policy S ticket U → U ≡ T
cancels_one policy S ticket T U once one other =
    let same = once.on_one_file one.file other.file ticket (waits_there S one.file ticket one.between one.leaves)
    (waits_there S other.file ticket other.between other.leaves) in
    then_settled_one policy one.between other.between one.file T U
    (leaves_one S one.file ticket one.between other.between (once.on_a_file one.file) one.leaves
    (subst (λ (f : ℕ). LeavesOn S f ticket other.between) (sym same) other.leaves))
    one.settles (subst (λ (f : ℕ). SettlesFile policy other.between f U) (sym same) other.settles)

pub cancel_one : (policy : Policy) (S : State) (ticket : ℕ) (was : Bool) (T : State) (was' : Bool) (U : State) → AreTicketsOnce S
    → CancelComesTo policy S ticket was T → CancelComesTo policy S ticket was' U → (was' ≡ was) × (U ≡ T)
cancel_one policy S ticket was T was' U once (inl h) (inl k) = (k.0 ∙ sym h.0, cancels_one policy S ticket T U once h.1 k.1)
cancel_one policy S ticket was T was' U once (inl h) (inr k) =
    absurd (k.1 (record { file = h.1.file; waits = waits_there S h.1.file ticket h.1.between h.1.leaves }))
cancel_one policy S ticket was T was' U once (inr h) (inl k) =
    absurd (h.1 (record { file = k.1.file; waits = waits_there S k.1.file ticket k.1.between k.1.leaves }))
cancel_one policy S ticket was T was' U once (inr h) (inr k) = (k.0 ∙ sym h.0, unchanged_one S T U h.2 k.2)

-- a last close
pub closes_one : (policy : Policy) (S : State) (through : Through) (file open_file : ℕ) (flock_owner : Option ℕ) (T U : State)
    → Closes policy S through file open_file flock_owner T → Closes policy S through file open_file flock_owner U → U ≡ T
closes_one policy S through file open_file flock_owner T U one other =
    let gone = one.closes in let gone' = other.closes in
    then_settled_one policy one.between other.between file T U
    (state_one S one.between other.between file [] gone.changes.others gone'.changes.others
    (record {
      locks = record {
        bytes = λ any byte. gone'.closes.bytes any byte ∙ sym (gone.closes.bytes any byte);
        flocks = λ any. gone'.closes.flocks any ∙ sym (gone.closes.flocks any);
      };
      waits = gone'.waits ∙ sym gone.waits;
    })
    (gone'.changes.grants ∙ sym gone.changes.grants) gone.changes.crossed gone'.changes.crossed) one.settles other.settles

-- who was seen through which open file
pub same_openings_one : (was one other : Through) → SameOpenings was one → SameOpenings was other → SameOpenings one other
same_openings_one was one other h k = record { through = λ file owner. k.through file owner ∙ sym (h.through file owner) }

pub sees_one : (was one other : Through) (file owner : ℕ) (open_file : Option ℕ) → SeesOn was one file owner open_file → SeesOn was other file owner open_file
    → SameOpenings one other
sees_one was one other file owner open_file h k = record {
  through = λ f w. elim (cases_eq f file) [
    | inl here ↦ subst (λ (n : ℕ). other n w ≡ one n w) (sym here) (elim (cases_eq w owner) [
      | inl same ↦ subst (λ (n : ℕ). other file n ≡ one file n) (sym same) (k.here ∙ sym h.here)
      | inr differs ↦ k.others w differs ∙ sym (h.others w differs)
    ])
    | inr away ↦ k.elsewhere f w away ∙ sym (h.elsewhere f w away)
  ];
}

pub forgets_through_one : (was one other : Through) (file open_file : ℕ) → ForgetsThrough was one file open_file → ForgetsThrough was other file open_file
    → SameOpenings one other
forgets_through_one was one other file open_file h k = record {
  through = λ f w. elim (cases_eq f file) [
    | inl here ↦ subst (λ (n : ℕ). other n w ≡ one n w) (sym here) (k.here w ∙ sym (h.here w))
    | inr away ↦ k.elsewhere f w away ∙ sym (h.elsewhere f w away)
  ];
}

pub forgets_owner_one : (was one other : Through) (owner : ℕ) → ForgetsOwner was one owner → ForgetsOwner was other owner → SameOpenings one other
forgets_owner_one was one other owner h k = record {
  through = λ f w. elim (cases_eq w owner) [
    | inl same ↦ subst (λ (n : ℕ). other f n ≡ one f n) (sym same) (k.none f ∙ sym (h.none f))
    | inr differs ↦ k.others f w differs ∙ sym (h.others f w differs)
  ];
}

-- whom a step crossed has a detected wait behind it
crossed_after : (S : State) (given : List ℕ) (T : State) → Crosses S given T → Crosses T [] T
crossed_after S given T crosses owner = (
  λ is. (((crosses owner).0 is).0, inl is),
  λ h. elim h.1 [ inl is ↦ is | inr none ↦ absurd (contains_none owner none) ],
)

kept_by : (gone : Bool) (held : Option Mode) → (gone ≡ true → held ≡ None) → (if gone then None else held) ≡ held
kept_by true held none = sym (none refl)
kept_by false held none = refl

-- what is forgotten of a stranger is nothing
stranger_kept : (S : State) (file owner : ℕ) (T : State) → Crosses S [] S → IsStrangerOn (S.files file) owner → ForgetsOn S file owner T → T ≡ S
stranger_kept S file owner T crossed stranger forgets =
    let F = S.files file in
    state_one S S T file [] (λ other differs. SameFile-itself (S.files other)) forgets.changes.others
    (record {
      locks = record {
        bytes = λ any byte. forgets.unlocks.bytes any byte ∙ kept_by (owner == any) (F.bytes any byte)
            (λ is. subst (λ (n : ℕ). F.bytes n byte ≡ None) (eqb-true owner any is) (stranger.bytes byte));
        flocks = λ any. forgets.unlocks.flocks any;
      };
      waits = forgets.waits ∙ filter_all (is_other_wait owner) F.waits stranger.waits;
    })
    forgets.changes.grants crossed forgets.changes.crossed

-- a settled file stays as it is
settled_kept : (policy : Policy) (S : State) (file : ℕ) (T : State) → Crosses S [] S → ∥ IsSettled policy (S.files file) ∥₁ → SettlesFile policy S file T
    → T ≡ S
settled_kept policy S file T crossed settled settles = kept settles.granted settles.settles settles.grants settles.crossed
  where
    kept : (granted : List Pending) → Settles policy (S.files file) granted (T.files file) → T.grants ≡ S.grants ++ tickets_of granted
        → Crosses S (owners_of granted) T → T ≡ S
    kept [] same grants crosses =
        state_one S S T file [] (λ other differs. SameFile-itself (S.files other)) settles.others same.1 (grants ∙ append-nil S.grants) crossed crosses
    kept (wait ∷ granted) (next, grants_wait, rest) grants crosses =
        absurd (∥∥₁_elim settled ⊥_prop (λ is. none_next policy (S.files file) grants_wait.before wait grants_wait.after is grants_wait.is_next))

-- one owner is forgotten on one file
forgotten_one : (S : State) (file owner : ℕ) (T U : State) → ForgetsOn S file owner T → ForgetsOn S file owner U → U ≡ T
forgotten_one S file owner T U one other = state_one S T U file [] one.changes.others other.changes.others
    (record {
      locks = record {
        bytes = λ any byte. other.unlocks.bytes any byte ∙ sym (one.unlocks.bytes any byte);
        flocks = λ any. other.unlocks.flocks any ∙ sym (one.unlocks.flocks any);
      };
      waits = other.waits ∙ sym one.waits;
    })
    (other.changes.grants ∙ sym one.changes.grants) one.changes.crossed other.changes.crossed

-- the files rise, from this one on
abbrev Rises : ℕ → List ℕ → Type 0
Rises from [] = Unit {0}
Rises from (file ∷ files) = (from ≤ file) × Rises (file + 1) files

rises_from : (from later : ℕ) (files : List ℕ) → from ≤ later → Rises later files → Rises from files
rises_from from later [] before rises = tt
rises_from from later (file ∷ files) before rises = (let at = rises.0 in omega arith, rises.1)

past_head : (from : ℕ) (files : List ℕ) (any : ℕ) → Rises from files → Contains files any → from ≤ any
past_head from [] any rises among = absurd (contains_none any among)
past_head from (file ∷ files) any rises among = elim (Contains-append_cases (file ∷ []) files any among) [
  | inl here ↦ (let is = contains_other file any here in let at = rises.0 in omega arith)
  | inr there ↦ (let later = past_head (file + 1) files any rises.1 there in let at = rises.0 in omega arith)
]

-- what is known of a state in which an owner is to be forgotten on files from this one on
record IsOpenFrom (policy : Policy) (S : State) (owner from : ℕ) : Type 0 where
  crossed : Crosses S [] S
  settled : (file : ℕ) → from ≤ file → ∥ IsSettled policy (S.files file) ∥₁

-- on all files from this one on but these the owner is a stranger
abbrev Covers : State → ℕ → ℕ → List ℕ → Type 0
Covers S owner from files = (any : ℕ) → from ≤ any → (¬ Contains files any) → IsStrangerOn (S.files any) owner

covers_rest : (S : State) (owner from file : ℕ) (files : List ℕ) → IsStrangerOn (S.files file) owner → Covers S owner from (file ∷ files)
    → Covers S owner from files
covers_rest S owner from file files stranger covers any past apart = elim (cases_eq any file) [
  | inl is ↦ subst (λ (n : ℕ). IsStrangerOn (S.files n) owner) (sym is) stranger
  | inr differs ↦ covers any past (λ among. elim (Contains-append_cases (file ∷ []) files any among) [
    | inl here ↦ differs (contains_other file any here)
    | inr there ↦ apart there
  ])
]

-- a stranger's file is left as it was
passed : (policy : Policy) (S : State) (owner from file : ℕ) (between next : State) → IsOpenFrom policy S owner from → from ≤ file
    → IsStrangerOn (S.files file) owner
    → ForgetsOn S file owner between → SettlesFile policy between file next → next ≡ S
passed policy S owner from file between next known past stranger forgets settles =
    let same = stranger_kept S file owner between known.crossed stranger forgets in
    settled_kept policy S file next known.crossed (known.settled file past) (subst (λ (B : State). SettlesFile policy B file next) same settles)

-- and behind one that isn't the later ones are as they were
untouched_later : (policy : Policy) (S : State) (owner file : ℕ) (between next : State) → ForgetsOn S file owner between → SettlesFile policy between file next
    → (any : ℕ) → file + 1 ≤ any → next.files any ≡ S.files any
untouched_later policy S owner file between next forgets settles any past =
    let differs : any ≢ file = omega arith in
    file_from_same (S.files any) (next.files any)
    (SameFile-then (S.files any) (between.files any) (next.files any) (forgets.changes.others any differs) (settles.others any differs))

known_later : (policy : Policy) (S : State) (owner from file : ℕ) (between next : State) → from ≤ file → IsOpenFrom policy S owner from
    → ForgetsOn S file owner between → SettlesFile policy between file next → IsOpenFrom policy next owner (file + 1)
known_later policy S owner from file between next past known forgets settles = record {
  crossed = crossed_after between (owners_of settles.granted) next settles.crossed;
  settled = λ any later. subst (λ (F : FileState). ∥ IsSettled policy F ∥₁) (sym (untouched_later policy S owner file between next forgets settles any later))
      (known.settled any (omega arith));
}

covers_later : (policy : Policy) (S : State) (owner from file : ℕ) (files : List ℕ) (between next : State) → from ≤ file
    → Covers S owner from (file ∷ files) → ForgetsOn S file owner between → SettlesFile policy between file next → Covers next owner (file + 1) files
covers_later policy S owner from file files between next past covers forgets settles any later apart =
    subst (λ (F : FileState). IsStrangerOn F owner) (sym (untouched_later policy S owner file between next forgets settles any later))
    (covers any (omega arith) (λ among. elim (Contains-append_cases (file ∷ []) files any among) [
      | inl here ↦ (let is = contains_other file any here in omega arith)
      | inr there ↦ apart there
    ]))

-- so one owner is forgotten on all files in one way, whichever files are looked at where it is a stranger
forgets_in_one : (fuel : ℕ) (policy : Policy) (owner from : ℕ) (files others : List ℕ) (S T U : State) → length files + length others ≤ fuel
    → IsOpenFrom policy S owner from → Rises from files → Rises from others → Covers S owner from files → Covers S owner from others
    → ForgetsIn policy files S owner T → ForgetsIn policy others S owner U → U ≡ T
forgets_in_one fuel policy owner from [] [] S T U enough known rises rises' covers covers' h k = unchanged_one S T U h k
forgets_in_one zero policy owner from [] (other ∷ others) S T U enough known rises rises' covers covers' h k = absurd (omega (arith, enough))
forgets_in_one zero policy owner from (file ∷ files) others S T U enough known rises rises' covers covers' h k = absurd (omega (arith, enough))
forgets_in_one (suc fuel) policy owner from [] (other ∷ others) S T U enough known rises rises' covers covers' h (between, next, forgets, settles, rest) =
    let stranger = covers other rises'.0 (contains_none other) in
    let same = passed policy S owner from other between next known rises'.0 stranger forgets settles in
    let at = rises'.0 in
    forgets_in_one fuel policy owner from [] others S T U (omega (arith, enough)) known tt (rises_from from (other + 1) others (omega arith) rises'.1) covers
    (covers_rest S owner from other others stranger covers') h (subst (λ (M : State). ForgetsIn policy others M owner U) same rest)
forgets_in_one (suc fuel) policy owner from (file ∷ files) [] S T U enough known rises rises' covers covers' (between, next, forgets, settles, rest) k =
    let stranger = covers' file rises.0 (contains_none file) in
    let same = passed policy S owner from file between next known rises.0 stranger forgets settles in
    let at = rises.0 in
    forgets_in_one fuel policy owner from files [] S T U (omega (arith, enough)) known (rises_from from (file + 1) files (omega arith) rises.1) tt
    (covers_rest S owner from file files stranger covers) covers' (subst (λ (M : State). ForgetsIn policy files M owner T) same rest) k
forgets_in_one (suc fuel) policy owner from (file ∷ files) (other ∷ others) S T U enough known rises rises' covers covers' (between, next, forgets, settles, rest) (between', next', forgets', settles', rest') =
    let at = rises.0 in let at' = rises'.0 in
    elim (cases_lt file other) [
      | inl before ↦
          (let stranger = covers' file rises.0 (λ among. let past = past_head other (other ∷ others) file (let same : other ≤ other = omega arith in (same, rises'.1)) among in omega arith) in
          let same = passed policy S owner from file between next known rises.0 stranger forgets settles in
          forgets_in_one fuel policy owner from files (other ∷ others) S T U (omega (arith, enough)) known (rises_from from (file + 1) files (omega arith) rises.1) rises'
          (covers_rest S owner from file files stranger covers) covers' (subst (λ (M : State). ForgetsIn policy files M owner T) same rest)
          (between', next', forgets', settles', rest'))
      | inr behind ↦ elim (cases_lt other file) [
        | inl before ↦
            (let stranger = covers other rises'.0 (λ among. let past = past_head file (file ∷ files) other (let same : file ≤ file = omega arith in (same, rises.1)) among in omega arith) in
            let same = passed policy S owner from other between' next' known rises'.0 stranger forgets' settles' in
            forgets_in_one fuel policy owner from (file ∷ files) others S T U (omega (arith, enough)) known rises (rises_from from (other + 1) others (omega arith) rises'.1)
            covers (covers_rest S owner from other others stranger covers') (between, next, forgets, settles, rest)
            (subst (λ (M : State). ForgetsIn policy others M owner U) same rest'))
        | inr not_behind ↦
            (let is : other ≡ file = omega arith in
            let forgets_here = subst (λ (f : ℕ). ForgetsOn S f owner between') is forgets' in
            let settles_here = subst (λ (f : ℕ). SettlesFile policy between' f next') is settles' in
            let same = then_settled_one policy between between' file next next' (forgotten_one S file owner between between' forgets forgets_here) settles settles_here in
            forgets_in_one fuel policy owner (file + 1) files others next T U (omega (arith, enough)) (known_later policy S owner from file between next rises.0 known forgets settles)
            rises.1 (subst (λ (f : ℕ). Rises (f + 1) others) is rises'.1)
            (covers_later policy S owner from file files between next rises.0 covers forgets settles)
            (covers_later policy S owner from file others between next rises.0 (subst (λ (f : ℕ). Covers S owner from (f ∷ others)) is covers') forgets settles)
            rest (subst (λ (M : State). ForgetsIn policy others M owner U) same rest'))
      ]
    ]

rises_all : (from : ℕ) (files : List ℕ) → AllPairs (λ one other. one < other) files → ((any : ℕ) → Contains files any → from ≤ any) → Rises from files
rises_all from [] rising past = tt
rises_all from (file ∷ files) rising past = (
  past file (0, (let n = length files in omega arith), refl),
  rises_all (file + 1) files (λ i j d less within. rising (suc i) (suc j) d (omega (arith, less)) (omega (arith, within)))
      (λ any (k, within, is). let later = rising 0 (suc k) any (omega arith) (omega (arith, within)) in
      let above : file < any = subst (λ (n : ℕ). file < n) is later in omega arith),
)

pub forgets_one : (policy : Policy) (S : State) (owner : ℕ) (T U : State) → Crosses S [] S → ((file : ℕ) → ∥ IsSettled policy (S.files file) ∥₁)
    → Forgets policy S owner T → Forgets policy S owner U → U ≡ T
forgets_one policy S owner T U crossed settled one other =
    forgets_in_one (length one.files + length other.files) policy owner 0 one.files other.files S T U (omega arith)
    (record { crossed = crossed; settled = λ file past. settled file })
    (rises_all 0 one.files one.rising (λ any among. omega arith)) (rises_all 0 other.files other.rising (λ any among. omega arith))
    (λ any past apart. one.others any apart) (λ any past apart. other.others any apart) one.forgets other.forgets
