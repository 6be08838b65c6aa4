-- Waits and grants that are put as a state has them: for `Parts::put_waits`, `Parts::put_grants` and `Parts::table`.
use Rattle.lock_server.proofs.Common.{ℕ, ◌≡◌, ◌≢◌, ◌∙◌, ◌<◌, sym, ap, subst, refl, arith, inl, inr, Bool, true, false, All, Any, Some, List, [], ◌∷◌, ◌++◌, get_or, length, map, take, drop, append-nil, append_assoc, AllPairs, IsTrue, slice_get, cases_eq, get_or_default, take-append-drop, take_all, All-cons, All-head, All-tail, Contains-append_left, get_or_from_slice_get, slice_get_within}
use Rattle.lock_server.proofs.Common.{Pending, FilePart, SetsOn, SaysFile, JoinsAll, SetsAll, JoinsEach, SetsEach, flock_lock_request, lock_request, AreTicketsOnce, IsDetectedOf, SameState, State, opening}
use Rattle.std.specs.Prelude.{◌⊎◌, Contains}
use Rattle.std.proofs.lemmas.List.{get_or-take, length-take}
use Rattle.lock_server.specs.Reading.{entry_of}
use Rattle.lock_server.specs.Importing.{AreFilesOf, HasLocksAlone, HasWaitsOf}
use Rattle.lock_server.specs.Restoring.{JoinsBefore, QueuesBefore}
use Rattle.lock_server.proofs.JustLemmas.{All-at, AllPairs-head, AllPairs-tail, Contains-cons, Contains-here, Contains-there, Contains-nil}
use Rattle.lock_server.proofs.ListLemmas.{Any-nil}
use Rattle.lock_server.proofs.StateLemmas.{state_from_same}

-- locks alone

alone_same : (S T : State) → SameState S T → HasLocksAlone S → HasLocksAlone T
alone_same S T same alone = subst (λ (U : State). HasLocksAlone U) (sym (state_from_same S T same)) alone

pub not_true : (b : Bool) → ¬ IsTrue b → b ≡ false
not_true true never = absurd (never refl)
not_true false never = refl

-- a change of a file without waits crosses nobody
alone_changed : (S : State) (file : ℕ) (wanted : Pending) (T : State) → HasLocksAlone S
    → SetsOn S file wanted.family wanted.owner wanted.span (Some wanted.mode) T → HasLocksAlone T
alone_changed S file wanted T alone sets = record {
  waits = waits;
  grants = sets.changes.grants ∙ alone.grants;
  crossed = λ owner. not_true (T.crossed owner) (λ is.
      let has = ((sets.changes.crossed owner).0 is).0 in
      Any-nil (IsDetectedOf owner) (subst (λ (ws : List Pending). Any (IsDetectedOf owner) ws) (waits has.file) has.among));
}
  where
    waits : (other : ℕ) → (T.files other).waits ≡ []
    waits other = elim (cases_eq other file) [
      | inl here ↦ subst (λ (f : ℕ). (T.files f).waits ≡ []) (sym here) (sets.waits ∙ alone.waits file)
      | inr differs ↦ (sets.changes.others other differs).waits ∙ alone.waits other
    ]

alone_each : (S : State) (file : ℕ) (wanteds : List Pending) (T : State) → SetsEach S file wanteds T → HasLocksAlone S → HasLocksAlone T
alone_each S file [] T same alone = alone_same S T same alone
alone_each S file (wanted ∷ wanteds) T (between, free, sets, more) alone =
    alone_each between file wanteds T more (alone_changed S file wanted between alone sets)

pub alone_all : (S : State) (parts : List FilePart) (T : State) → SetsAll S parts T → HasLocksAlone S → HasLocksAlone T
alone_all S [] T same alone = alone_same S T same alone
alone_all S (part ∷ parts) T (between, sets, more) alone =
    alone_all between parts T more
    (alone_each sets.between part.number (map flock_lock_request part.flocks.items) between sets.flocks
    (alone_each S part.number (map lock_request part.locks.items) sets.between sets.locks alone))

pub alone_opening : (T : State) → SameState opening T → HasLocksAlone T
unfolding opening
alone_opening T same = record { waits = λ file. (same.files file).waits; grants = same.grants; crossed = λ owner. same.crossed owner }

-- waits that join

-- what doesn't change as waits join, and what comes of them on their file
pub record JoinsOnly (S : State) (file : ℕ) (waits : List Pending) (T : State) : Type 0 where
  pub here : (T.files file).waits ≡ (S.files file).waits ++ waits
  pub others : (other : ℕ) → other ≢ file → (T.files other).waits ≡ (S.files other).waits
  pub grants : T.grants ≡ S.grants

pub joins_only : (S : State) (file : ℕ) (waits : List Pending) (T : State) → JoinsEach S file waits T → JoinsOnly S file waits T
joins_only S file [] T same = record {
  here = (same.files file).waits ∙ sym (append-nil (S.files file).waits);
  others = λ other differs. (same.files other).waits;
  grants = same.grants;
}
joins_only S file (wait ∷ waits) T (between, free, suspends, more) =
    let rest = joins_only between file waits T more in
    record {
      here = rest.here ∙ ap (λ (ws : List Pending). ws ++ waits) suspends.joins.waits ∙ append_assoc (S.files file).waits (wait ∷ []) waits;
      others = λ other differs. rest.others other differs ∙ (suspends.changes.others other differs).waits;
      grants = rest.grants ∙ suspends.changes.grants;
    }

abbrev pub IsElsewhere : ℕ → FilePart → Type 0
IsElsewhere file part = part.number ≢ file

abbrev pub AreRising : List FilePart → Type 0
AreRising parts = AllPairs (λ one other. one.number < other.number) parts

pub kept_waits : (S : State) (parts : List FilePart) (T : State) → JoinsAll S parts T → (file : ℕ) → All (IsElsewhere file) parts
    → (T.files file).waits ≡ (S.files file).waits
kept_waits S [] T same file elsewhere = (same.files file).waits
kept_waits S (part ∷ parts) T (between, joins, more) file elsewhere =
    let only = joins_only S part.number part.waits.items between joins in
    let head = All-head (IsElsewhere file) part parts elsewhere in
    kept_waits between parts T more file (All-tail (IsElsewhere file) part parts elsewhere) ∙ only.others file (λ same. head (sym same))

pub joined_grants : (S : State) (parts : List FilePart) (T : State) → JoinsAll S parts T → T.grants ≡ S.grants
joined_grants S [] T same = same.grants
joined_grants S (part ∷ parts) T (between, joins, more) =
    joined_grants between parts T more ∙ (joins_only S part.number part.waits.items between joins).grants

later_elsewhere : (part : FilePart) (parts : List FilePart) → AreRising (part ∷ parts) → All (IsElsewhere part.number) parts
later_elsewhere part parts rising k d within same =
    let above = AllPairs-head (λ one other. one.number < other.number) part parts rising k d within in omega (arith, same)

-- the waits of a part come to stand on its file
pub joined_waits : (S : State) (parts : List FilePart) (T : State) → JoinsAll S parts T → AreRising parts → (part : FilePart) → Contains parts part
    → (T.files part.number).waits ≡ (S.files part.number).waits ++ part.waits.items
joined_waits S [] T same rising part among = absurd (Contains-nil part among)
joined_waits S (first ∷ parts) T (between, joins, more) rising part among =
    let only = joins_only S first.number first.waits.items between joins in
    let tail = AllPairs-tail (λ one other. one.number < other.number) first parts rising in
    elim (Contains-cons first parts part among) [
      | inl is ↦ subst (λ (p : FilePart). (T.files p.number).waits ≡ (S.files p.number).waits ++ p.waits.items) is
          (kept_waits between parts T more first.number (later_elsewhere first parts rising) ∙ only.here)
      | inr behind ↦
          let away = All-at (IsElsewhere first.number) parts (later_elsewhere first parts rising) part behind in
          joined_waits between parts T more tail part behind ∙ ap (λ (ws : List Pending). ws ++ part.waits.items) (only.others part.number away)
    ]

-- a file is that of a part, or of none
pub part_or_none : (file : ℕ) (parts : List FilePart)
    → ((part : FilePart) × Contains parts part × (part.number ≡ file)) ⊎ All (λ part. part.number ≢ file) parts
part_or_none file [] = inr (λ k d within. absurd (let none : k < 0 = within in omega arith))
part_or_none file (part ∷ parts) = elim (cases_eq part.number file) [
  | inl here ↦ inl (part, Contains-here part parts, here)
  | inr differs ↦ elim (part_or_none file parts) [
    | inl found ↦ inl (found.0, Contains-there part parts found.0 found.1, found.2)
    | inr none ↦ inr (All-cons (λ p. p.number ≢ file) part parts differs none)
  ]
]

-- what is in front of a place is there
taken_there : {X : Type 0} (n : ℕ) (xs : List X) (x : X) → Contains (take n xs) x → Contains xs x
taken_there n xs x among = subst (λ l. Contains l x) (take-append-drop n xs) (Contains-append_left (take n xs) (drop n xs) x among)

rising_taken : {X : Type 0} (R : X → X → Type 0) (n : ℕ) (xs : List X) → AllPairs R xs → AllPairs R (take n xs)
rising_taken R n xs pairs i j d before within =
    let short = length-take n xs in
    subst (λ x. R x (get_or (take n xs) j d)) (sym (get_or-take n xs i d (omega arith)))
    (subst (λ x. R (get_or xs i d) x) (sym (get_or-take n xs j d (omega arith))) (pairs i j d before (omega arith)))

-- no two waits on a list that has none twice have one ticket
twice : (waits : List Pending) (place : ℕ) (next : Pending) → AllPairs (λ v w. v.ticket ≢ w.ticket) waits → slice_get waits place ≡ Some next
    → ¬ Any (λ wait. wait.ticket ≡ next.ticket) (take place waits)
twice waits place next once at (k, wait, within, is, same) =
    let short = length-take place waits in
    let there = slice_get_within waits place next at in
    let before : k < place = omega arith in
    let one : get_or waits k next ≡ wait = sym (get_or-take place waits k next before) ∙ get_or_default (take place waits) k next wait within ∙ is in
    let other : get_or waits place next ≡ next = get_or_from_slice_get waits place next next at in
    once k place next before there (ap (λ (w : Pending). w.ticket) one ∙ same ∙ ap (λ (w : Pending). w.ticket) (sym other))

module _ (S : State) (parts : List FilePart) (of : AreFilesOf S parts) (T : State) (alone : HasLocksAlone T) where
  -- the waits of some parts that joined are those of the state
  pub waits_of : (i : ℕ) (M : State) → JoinsAll T (take i parts) M → (part : FilePart) → Contains (take i parts) part
      → (M.files part.number).waits ≡ (S.files part.number).waits
  waits_of i M joins part among =
      joined_waits T (take i parts) M joins (rising_taken (λ one other. one.number < other.number) i parts of.rising) part among
      ∙ ap (λ (ws : List Pending). ws ++ part.waits.items) (alone.waits part.number)
      ∙ (All-at (λ p. SaysFile (S.files p.number) (entry_of p)) parts of.says part (taken_there i parts part among)).waits

  pub any_of : (i : ℕ) (M : State) → JoinsAll T (take i parts) M → (file : ℕ) (P : Pending → Type 0) → Any P (M.files file).waits → Any P (S.files file).waits
  any_of i M joins file P any = elim (part_or_none file (take i parts)) [
    | inl found ↦ subst (λ (f : ℕ). Any P (S.files f).waits) found.2
        (subst (λ (ws : List Pending). Any P ws) (waits_of i M joins found.0 found.1) (subst (λ (f : ℕ). Any P (M.files f).waits) (sym found.2) any))
    | inr none ↦ absurd (Any-nil P (subst (λ (ws : List Pending). Any P ws) (kept_waits T (take i parts) M joins file none ∙ alone.waits file) any))
  ]

  -- no ticket of the next part is there already
  module _ (once : AreTicketsOnce S) (part : FilePart) (says : part.waits.items ≡ (S.files part.number).waits) (i : ℕ) (M : State)
      (joins : JoinsAll T (take i parts) M) (elsewhere : All (IsElsewhere part.number) (take i parts)) (place : ℕ) (N : State)
      (stops : JoinsBefore M part.number part.waits.items place N) where
    only : JoinsOnly M part.number (take place part.waits.items) N
    only = joins_only M part.number (take place part.waits.items) N stops.joins

    now : (N.files part.number).waits ≡ take place part.waits.items
    now = only.here ∙ ap (λ (ws : List Pending). ws ++ take place part.waits.items)
        (kept_waits T (take i parts) M joins part.number elsewhere ∙ alone.waits part.number)

    there : Any (λ wait. wait.ticket ≡ stops.next.ticket) part.waits.items
    there = (
      place,
      stops.next,
      slice_get_within part.waits.items place stops.next stops.at,
      get_or_from_slice_get part.waits.items place stops.next stops.next stops.at,
      refl,
    )

    next_taken : ⊥
    next_taken = elim stops.taken [
      | inl pending ↦ elim (cases_eq pending.file part.number) [
        | inl here ↦ twice part.waits.items place stops.next
            (subst (λ (ws : List Pending). AllPairs (λ v w. v.ticket ≢ w.ticket) ws) (sym says) (once.on_a_file part.number)) stops.at
            (subst (λ (ws : List Pending). Any (λ wait. wait.ticket ≡ stops.next.ticket) ws) now
            (subst (λ (f : ℕ). Any (λ wait. wait.ticket ≡ stops.next.ticket) (N.files f).waits) here pending.waits))
        | inr differs ↦ differs (once.on_one_file pending.file part.number stops.next.ticket
            (any_of i M joins pending.file (λ wait. wait.ticket ≡ stops.next.ticket)
            (subst (λ (ws : List Pending). Any (λ wait. wait.ticket ≡ stops.next.ticket) ws) (only.others pending.file differs) pending.waits))
            (subst (λ (ws : List Pending). Any (λ wait. wait.ticket ≡ stops.next.ticket) ws) says there))
      ]
      | inr granted ↦ Contains-nil stops.next.ticket (subst (λ (l : List ℕ). Contains l stops.next.ticket)
          (only.grants ∙ joined_grants T (take i parts) M joins ∙ alone.grants) granted)
    ]

  pub none_taken : AreTicketsOnce S → (i : ℕ) (d : FilePart) → i < length parts → (M : State) → JoinsAll T (take i parts) M → (place : ℕ) (N : State)
      → JoinsBefore M (get_or parts i d).number (get_or parts i d).waits.items place N → ⊥
  none_taken once i d within M joins place N stops =
      next_taken once (get_or parts i d) (of.says i d within).waits i M joins elsewhere place N stops
    where
      elsewhere : All (IsElsewhere (get_or parts i d).number) (take i parts)
      elsewhere k e below same =
          let short = length-take i parts in
          let before : k < i = omega arith in
          let rises = of.rising k i d before within in
          let at : get_or (take i parts) k e ≡ get_or parts k d = get_or-take i parts k e before ∙ get_or_default parts k e d (omega arith) in
          let numbers : (get_or parts k d).number ≡ (get_or parts i d).number = ap (λ (p : FilePart). p.number) (sym at) ∙ same in
          omega (arith, numbers, rises)

  -- all waits have joined
  pub all_joined : (U : State) → JoinsAll T parts U → HasWaitsOf S U
  all_joined U joins = record {
    waits = λ file. elim (part_or_none file parts) [
      | inl found ↦ subst (λ (f : ℕ). (U.files f).waits ≡ (S.files f).waits) found.2 (waits_of (length parts) U whole found.0
          (subst (λ (l : List FilePart). Contains l found.0) (sym all) found.1))
      | inr none ↦ kept_waits T parts U joins file none ∙ alone.waits file ∙ (of.others file none).waits
    ];
    grants = joined_grants T parts U joins ∙ alone.grants;
  }
    where
      all : take (length parts) parts ≡ parts
      all = take_all (length parts) parts (omega arith)

      whole : JoinsAll T (take (length parts) parts) U
      whole = subst (λ (l : List FilePart). JoinsAll T l U) (sym all) joins

-- no grant of a state has a ticket that is there
pub none_granted : (S T : State) (tickets : List ℕ) (place : ℕ) (U : State) → tickets ≡ S.grants → AreTicketsOnce S → HasWaitsOf S T
    → QueuesBefore T tickets place U → ⊥
none_granted S T tickets place U are once has stops = elim stops.taken [
  | inl pending ↦ once.waits_or_granted pending.file stops.next
      (subst (λ (ws : List Pending). Any (λ wait. wait.ticket ≡ stops.next) ws) ((stops.queues.files pending.file).waits ∙ has.waits pending.file) pending.waits)
      (subst (λ (l : List ℕ). Contains l stops.next) are
      (place, slice_get_within tickets place stops.next stops.at, get_or_from_slice_get tickets place stops.next stops.next stops.at))
  | inr granted ↦ before (subst (λ (l : List ℕ). Contains l stops.next)
      (stops.queues.grants ∙ ap (λ (l : List ℕ). l ++ take place tickets) has.grants) granted)
]
  where
    before : ¬ Contains (take place tickets) stops.next
    before (k, within, is) =
        let short = length-take place tickets in
        let there = slice_get_within tickets place stops.next stops.at in
        let earlier : k < place = omega arith in
        let one : get_or tickets k 0 ≡ stops.next =
        sym (get_or-take place tickets k 0 earlier) ∙ get_or_default (take place tickets) k 0 stops.next within ∙ is in
        let other : get_or tickets place 0 ≡ stops.next = get_or_from_slice_get tickets place stops.next 0 stops.at in
        subst (λ (l : List ℕ). AllPairs (λ a b. a ≢ b) l) (sym are) once.granted_once k place 0 earlier there (one ∙ sym other)
