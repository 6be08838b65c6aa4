-- From an owner that was reached to those for which it waits: for `follow` and what it calls.
use Rattle.lock_server.proofs.Common.{common_steps, ℕ, ◌≡◌, ◌+◌, ◌<◌, ◌≤◌, ◌∙◌, ◌⊎◌, inl, inr, sym, ap, refl, subst, arith, Bool, true, false, Option, Some, None, List, [], ◌++◌, Any, Contains, length, take, ◌↔◌, if◌then◌else◌, IsTrue, slice_get, cases_eq, cases_lt, same_Some, slice_get-get_or, slice_get_within}
use Rattle.lock_server.proofs.Common.{Mode, Read, Write, Span, is_covered, Covers, HeldConflicts, WaitsConflict, Policy, Held, Queue, Pending, Table, LookedAt, AddsGoingOn, AddsOwners, BlocksBefore, BlocksOn, IsGoingOn, IsNextDetected, IsNoneDetected, BlocksIn, IsBlockedByOwner, WaitsFor, WaitsForOn, FileState, state_in, IsFirstPartLacking, AreTold, Follows, looked_modes, as_wait, IsAtLeast, entry_of, table_state, files_of, Waiters}
use Rattle.std.proofs.lemmas.List.{append-nil, append_assoc}
use Rattle.lock_server.specs.declared.table.reached.Reached.{Reached}
use Rattle.lock_server.specs.Blockers.{IsDetectedAt}
use Rattle.lock_server.specs.LookedAt.{NotesLook}
use Rattle.lock_server.proofs.BlockerLemmas.{IsStepAt, place_of_step, step_from_place}
use Rattle.lock_server.proofs.GatheredOwnerLemmas.{AddsOwners-as, IsGivenBefore}
use Rattle.lock_server.proofs.ReachedLemmas.{file_of_step, gathered_from_none}

-- owners that go on

module _ (waiters : Waiters) (target : ℕ) where
  -- nothing more
  pub going_none : (P : ℕ → Type 0) (old : List ℕ) → ((other : ℕ) → P other → IsGoingOn waiters target other → Contains old other)
      → AddsGoingOn waiters target P old old
  going_none P old there = record {
    more = [];
    is = sym (append-nil old);
    adds = record { kept = λ other among. among; added = λ other here. there other here.0 here.1; only = λ other among. inl among };
  }

  -- the same owners, said otherwise
  pub going_as : (P Q : ℕ → Type 0) (old new : List ℕ) → ((other : ℕ) → P other ↔ Q other) → AddsGoingOn waiters target P old new
      → AddsGoingOn waiters target Q old new
  going_as P Q old new same going = record {
    more = going.more;
    is = going.is;
    adds = AddsOwners-as old new (λ other. P other × IsGoingOn waiters target other) (λ other. Q other × IsGoingOn waiters target other)
        (λ other. (λ has. ((same other).0 has.0, has.1), λ has. ((same other).1 has.0, has.1))) going.adds;
  }

  -- those of the one kind, and then of the other; of a third kind, all that go on are there
  pub going_both : (P Q R : ℕ → Type 0) (old mid new : List ℕ) → AddsGoingOn waiters target P old mid → AddsGoingOn waiters target Q mid new
      → ((other : ℕ) → P other → R other) → ((other : ℕ) → Q other → R other)
      → ((other : ℕ) → R other → IsGoingOn waiters target other → P other ⊎ (Q other ⊎ Contains mid other)) → AddsGoingOn waiters target R old new
  going_both P Q R old mid new one two first second either = record {
    more = one.more ++ two.more;
    is = two.is ∙ ap (λ (l : List ℕ). l ++ two.more) one.is ∙ append_assoc old one.more two.more;
    adds = record {
      kept = λ other among. two.adds.kept other (one.adds.kept other among);
      added = λ other here. elim (either other here.0 here.1) [
        | inl p ↦ two.adds.kept other (one.adds.added other (p, here.1))
        | inr (inl q) ↦ two.adds.added other (q, here.1)
        | inr (inr among) ↦ two.adds.kept other among
      ];
      only = λ other among. elim (two.adds.only other among) [
        | inl before ↦ elim (one.adds.only other before) [ inl old ↦ inl old | inr p ↦ inr (first other p.0, p.1) ]
        | inr q ↦ inr (second other q.0, q.1)
      ];
    };
  }

  -- those of a list that was gathered from nothing
  pub going_gathered : (P : ℕ → Type 0) (none next old new : List ℕ) → none ≡ [] → AddsOwners none next P
      → AddsGoingOn waiters target (Contains next) old new → AddsGoingOn waiters target P old new
  going_gathered P none next old new empty adds going =
      going_as (Contains next) P old new (gathered_from_none none next P empty adds) going

-- what conflicts with a mode conflicts with each that is at least this one
conflicts_more : (held : Option Mode) (looked wanted : Mode) → IsAtLeast (Some looked) wanted → HeldConflicts held wanted → HeldConflicts held looked
conflicts_more None looked wanted least conflict = absurd conflict
conflicts_more (Some Read) Read Read least conflict = absurd conflict
conflicts_more (Some Read) Read Write least conflict = absurd least
conflicts_more (Some Read) Write wanted least conflict = tt
conflicts_more (Some Write) Read wanted least conflict = tt
conflicts_more (Some Write) Write wanted least conflict = tt

none_at_least : (held : Option Mode) (wanted : Mode) → held ≡ None → ¬ IsAtLeast held wanted
none_at_least None wanted none least = least
none_at_least (Some mode) wanted none least = let h : Some mode ≡ None = none in cc

covered_from : (span : Span) (byte : ℕ) → is_covered span byte ≡ true → Covers span byte
covered_from span byte is = grind (arith, common_steps)

module _ (table : Table) (target : ℕ) where
  pub told_none : (reached : Reached) → ((file byte : ℕ) → looked_modes reached.looked_at file byte ≡ None) → AreTold table target reached
  told_none reached none = record {
    told = λ file byte mode looked other conflicts goes. absurd (none_at_least (looked_modes reached.looked_at file byte) mode (none file byte) looked);
  }

  -- more owners
  pub told_kept : (old new : Reached) → AreTold table target old → ((other : ℕ) → Contains old.owners.items other → Contains new.owners.items other)
      → new.looked_at ≡ old.looked_at → AreTold table target new
  told_kept old new before kept same = record {
    told = λ file byte mode looked other conflicts goes.
        kept other (before.told file byte mode
        (subst (λ (held : Option Mode). IsAtLeast held mode) (ap (λ (l : LookedAt). looked_modes l file byte) same) looked) other conflicts goes);
  }

  -- more bytes, of whose locks all owners were reached that go on
  pub told_noted : (old new : Reached) (file : ℕ) (span : Span) (mode : Mode) → AreTold table target old
      → ((other : ℕ) → Contains old.owners.items other → Contains new.owners.items other) → NotesLook old.looked_at new.looked_at file span mode
      → ((byte other : ℕ) → Covers span byte → HeldConflicts (((table_state table).files file).bytes other byte) mode → IsGoingOn table.waiters target other
      → Contains new.owners.items other)
      → AreTold table target new
  told_noted old new file span mode before kept notes all = record {
    told = λ at byte wanted looked other conflicts goes. elim (cases_eq at file) [
      | inl here ↦ on_file at byte wanted looked other conflicts goes here
      | inr differs ↦
          kept other (before.told at byte wanted
          (subst (λ (held : Option Mode). IsAtLeast held wanted) (notes.elsewhere at byte differs) looked) other conflicts goes)
    ];
  }
    where
      by_cover : (byte : ℕ) (wanted : Mode) (other : ℕ) (covered : Bool) → is_covered span byte ≡ covered
          → IsAtLeast (if covered then Some mode else looked_modes old.looked_at file byte) wanted
          → HeldConflicts (((table_state table).files file).bytes other byte) wanted → IsGoingOn table.waiters target other → Contains new.owners.items other
      by_cover byte wanted other true covered looked conflicts goes =
          all byte other (covered_from span byte covered)
          (conflicts_more (((table_state table).files file).bytes other byte) mode wanted looked conflicts) goes
      by_cover byte wanted other false covered looked conflicts goes = kept other (before.told file byte wanted looked other conflicts goes)

      on_file : (at byte : ℕ) (wanted : Mode) → IsAtLeast (looked_modes new.looked_at at byte) wanted → (other : ℕ)
          → HeldConflicts (((table_state table).files at).bytes other byte) wanted → IsGoingOn table.waiters target other → at ≡ file
          → Contains new.owners.items other
      on_file at byte wanted looked other conflicts goes here =
          by_cover byte wanted other (is_covered span byte) refl
          (subst (λ (held : Option Mode). IsAtLeast held wanted) (ap (λ (n : ℕ). looked_modes new.looked_at n byte) here ∙ notes.there byte) looked)
          (subst (λ (n : ℕ). HeldConflicts (((table_state table).files n).bytes other byte) wanted) here conflicts) goes

  -- a part of the bytes of a wait, on which the search looks
  pub part_followed : (old mid new : Reached) (file owner : ℕ) (part : Span) (mode : Mode) → AreTold table target old → Contains old.owners.items owner
      → AddsGoingOn table.waiters target (BlocksOn ((table_state table).files file) owner part mode) old.owners.items mid.owners.items
      → mid.looked_at ≡ old.looked_at → new.owners.items ≡ mid.owners.items → NotesLook mid.looked_at new.looked_at file part mode
      → Follows table target (BlocksOn ((table_state table).files file) owner part mode) old new
  part_followed old mid new file owner part mode before among going same owners notes =
      let F : FileState = (table_state table).files file in
      let there : (other : ℕ) → Contains mid.owners.items other → Contains new.owners.items other =
      λ other h. subst (λ (l : List ℕ). Contains l other) (sym owners) h in
      record {
        adds = subst (λ (l : List ℕ). AddsGoingOn table.waiters target (BlocksOn F owner part mode) old.owners.items l) (sym owners) going;
        told = told_noted mid new file part mode (told_kept old mid before going.adds.kept same) there notes
            (λ byte other covered conflicts goes. elim (cases_eq other owner) [
              | inl own ↦ there other (going.adds.kept other (subst (λ (n : ℕ). Contains old.owners.items n) (sym own) among))
              | inr another ↦
                  there other (going.adds.added other (record { byte = byte; covered = covered; another = another; conflicts = conflicts }, goes))
            ]);
      }

  -- the one kind, and then the other
  pub followed_both : (P Q R : ℕ → Type 0) (old mid new : Reached) → Follows table target P old mid → Follows table target Q mid new
      → ((other : ℕ) → (P other ⊎ Q other) ↔ R other) → Follows table target R old new
  followed_both P Q R old mid new one two both = record {
    adds = going_both table.waiters target P Q R old.owners.items mid.owners.items new.owners.items one.adds two.adds (λ other p. (both other).0 (inl p)) (λ other q. (both other).0 (inr q))
        (λ other r goes. elim ((both other).1 r) [ inl p ↦ inl p | inr q ↦ inr (inl q) ]);
    told = two.told;
  }

  pub followed_as : (P Q : ℕ → Type 0) (old new : Reached) → ((other : ℕ) → P other ↔ Q other) → Follows table target P old new → Follows table target Q old new
  followed_as P Q old new same follows = record { adds = going_as table.waiters target P Q old.owners.items new.owners.items same follows.adds; told = follows.told }

  -- those that were gathered, with no look at bytes
  pub gathered_followed : (P : ℕ → Type 0) (none next : List ℕ) (old new : Reached) → AreTold table target old → none ≡ [] → AddsOwners none next P
      → AddsGoingOn table.waiters target (Contains next) old.owners.items new.owners.items → new.looked_at ≡ old.looked_at → Follows table target P old new
  gathered_followed P none next old new before empty adds going same = record {
    adds = going_gathered table.waiters target P none next old.owners.items new.owners.items empty adds going;
    told = told_kept old new before going.adds.kept same;
  }

  -- the bytes of a wait, part by part
  module _ (file owner : ℕ) (span rest : Span) (mode : Mode) (to : rest.last ≡ span.last) (from : span.first ≤ rest.first)
      (old mid : Reached) (told : AreTold table target mid)
      (before : AddsGoingOn table.waiters target (BlocksBefore ((table_state table).files file) owner span mode rest.first) old.owners.items mid.owners.items) where
    abbrev F : FileState
    F = (table_state table).files file

    -- on the bytes before the part it looked
    looked_before : (blocked end other : ℕ) → ((byte : ℕ) → rest.first ≤ byte → byte < end → IsAtLeast (looked_modes mid.looked_at file byte) mode)
        → (blocks : BlocksBefore F owner span mode blocked other) → rest.first ≤ blocks.byte → blocks.byte < end → IsGoingOn table.waiters target other
        → Contains mid.owners.items other
    looked_before blocked end other looked blocks late early goes =
        told.told file blocks.byte mode (looked blocks.byte late early) other blocks.conflicts goes

    pub parts_more : (new : Reached) (part : Span) (end : ℕ) → IsFirstPartLacking (looked_modes mid.looked_at file) rest mode part → end ≡ part.last + 1
        → Follows table target (BlocksOn F owner part mode) mid new
        → AddsGoingOn table.waiters target (BlocksBefore F owner span mode end) old.owners.items new.owners.items
    parts_more new part end is past follows =
        let start = is.from in
        let any = is.any in
        let stop = is.to in
        going_both table.waiters target (BlocksBefore F owner span mode rest.first) (BlocksOn F owner part mode) (BlocksBefore F owner span mode end)
        old.owners.items mid.owners.items new.owners.items before follows.adds
        (λ other b. record {
          byte = b.byte;
          covered = b.covered;
          before = (let early = b.before in omega (arith, early, start, any, past));
          another = b.another;
          conflicts = b.conflicts;
        })
        (λ other b. record {
          byte = b.byte;
          covered = (let c = b.covered in (omega (arith, c.0, start, from), omega (arith, c.1, stop, to)));
          before = (let c = b.covered in omega (arith, c.1, past));
          another = b.another;
          conflicts = b.conflicts;
        })
        (λ other b goes. elim (cases_lt b.byte rest.first) [
          | inl early ↦ inl (record { byte = b.byte; covered = b.covered; before = early; another = b.another; conflicts = b.conflicts })
          | inr late ↦ elim (cases_lt b.byte part.first) [
            | inl between ↦ inr (inr (looked_before end part.first other is.before b late between goes))
            | inr inside ↦
                inr (inl (record {
                  byte = b.byte;
                  covered = (inside, (let early = b.before in omega (arith, early, past)));
                  another = b.another;
                  conflicts = b.conflicts;
                }))
          ]
        ])

    -- the rest has no part on which it didn't look
    pub parts_end : ((byte : ℕ) → Covers rest byte → IsAtLeast (looked_modes mid.looked_at file byte) mode) → Follows table target (BlocksOn F owner span mode) old mid
    parts_end looked = record {
      adds =
          going_both table.waiters target (BlocksBefore F owner span mode rest.first) (BlocksBefore F owner span mode rest.first) (BlocksOn F owner span mode)
          old.owners.items mid.owners.items mid.owners.items before
          (going_none table.waiters target (BlocksBefore F owner span mode rest.first) mid.owners.items (λ other b goes. before.adds.added other (b, goes)))
          (λ other b. record { byte = b.byte; covered = b.covered; another = b.another; conflicts = b.conflicts })
          (λ other b. record { byte = b.byte; covered = b.covered; another = b.another; conflicts = b.conflicts })
          (λ other b goes. elim (cases_lt b.byte rest.first) [
            | inl early ↦ inl (record { byte = b.byte; covered = b.covered; before = early; another = b.another; conflicts = b.conflicts })
            | inr late ↦
                inr (inr (told.told file b.byte mode (looked b.byte (late, (let c = b.covered in omega (arith, c.1, to)))) other b.conflicts goes))
          ]);
      told = told;
    }

  -- a part that reaches the end
  pub parts_whole : (file owner : ℕ) (span : Span) (mode : Mode) (end : ℕ) (old new : Reached) → span.last < end → AreTold table target new
      → AddsGoingOn table.waiters target (BlocksBefore ((table_state table).files file) owner span mode end) old.owners.items new.owners.items
      → Follows table target (BlocksOn ((table_state table).files file) owner span mode) old new
  parts_whole file owner span mode end old new past told going = record {
    adds = going_as table.waiters target (BlocksBefore ((table_state table).files file) owner span mode end) (BlocksOn ((table_state table).files file) owner span mode)
        old.owners.items new.owners.items
        (λ other. (
          λ b. record { byte = b.byte; covered = b.covered; another = b.another; conflicts = b.conflicts },
          λ b. record {
            byte = b.byte;
            covered = b.covered;
            before = (let within = b.covered.1 in omega (arith, within, past));
            another = b.another;
            conflicts = b.conflicts;
          },
        )) going;
    told = told;
  }

-- no byte is before the first
pub none_from_start : (waiters : Waiters) (target : ℕ) (F : FileState) (owner : ℕ) (span : Span) (mode : Mode) (old : List ℕ)
    → AddsGoingOn waiters target (BlocksBefore F owner span mode span.first) old old
none_from_start waiters target F owner span mode old =
    going_none waiters target (BlocksBefore F owner span mode span.first) old
    (λ other b goes. absurd (let from = b.covered.0 in let early = b.before in omega (arith, from, early)))

-- of a wait, by the policy
pub by_held : (policy : Policy) (F : FileState) (earlier : List Pending) (wait : Pending) → policy ≡ Held → (other : ℕ)
    → BlocksIn wait.family F wait other ↔ IsBlockedByOwner policy F earlier wait other
by_held policy F earlier wait is other =
    subst (λ (p : Policy). BlocksIn wait.family F wait other ↔ IsBlockedByOwner p F earlier wait other) (sym is) (λ b. b, λ b. b)

pub by_queue : (policy : Policy) (F : FileState) (earlier : List Pending) (wait : Pending) → policy ≡ Queue → (other : ℕ)
    → (BlocksIn wait.family F wait other ⊎ Any (λ v. (v.owner ≡ other) × WaitsConflict (as_wait v) (as_wait wait)) earlier)
    ↔ IsBlockedByOwner policy F earlier wait other
by_queue policy F earlier wait is other =
    subst (λ (p : Policy). (BlocksIn wait.family F wait other ⊎ Any (λ v. (v.owner ≡ other) × WaitsConflict (as_wait v) (as_wait wait)) earlier)
    ↔ IsBlockedByOwner p F earlier wait other) (sym is) (λ b. b, λ b. b)

-- loops over elements each of which gives some owners

module _ {X : Type 0} (table : Table) (target : ℕ) (Gives : ℕ → X → ℕ → Type 0) (xs : List X) where
  pub given_none : (old : Reached) → AreTold table target old → Follows table target (IsGivenBefore Gives xs 0) old old
  given_none old told = record {
    adds = going_none table.waiters target (IsGivenBefore Gives xs 0) old.owners.items
        (λ other given goes. absurd (let early = given.before in omega (arith, early)));
    told = told;
  }

  given_split : (i : ℕ) (x : X) (other : ℕ) → slice_get xs i ≡ Some x → IsGivenBefore Gives xs (i + 1) other → IsGivenBefore Gives xs i other ⊎ Gives i x other
  given_split i x other at given = elim (cases_lt given.place i) [
    | inl before ↦ inl (record { place = given.place; before = before; item = given.item; is = given.is; gives = given.gives })
    | inr past ↦
        inr (let early = given.before in
        let here : given.place ≡ i = omega (arith, early, past) in
        let one : slice_get xs i ≡ Some given.item = subst (λ (k : ℕ). slice_get xs k ≡ Some given.item) here given.is in
        let same : given.item ≡ x = same_Some given.item x (sym one ∙ at) in
        subst (λ (k : ℕ). Gives k x other) here (subst (λ (y : X). Gives given.place y other) same given.gives))
  ]

  -- the element at this place
  pub given_more : (i : ℕ) (x : X) (old mid new : Reached) → slice_get xs i ≡ Some x → Follows table target (IsGivenBefore Gives xs i) old mid
      → Follows table target (Gives i x) mid new → Follows table target (IsGivenBefore Gives xs (i + 1)) old new
  given_more i x old mid new at before here =
      followed_both table target (IsGivenBefore Gives xs i) (Gives i x) (IsGivenBefore Gives xs (i + 1)) old mid new before here
      (λ other. (
        λ either. elim either [
          | inl given ↦ record { place = given.place; before = (let early = given.before in omega (arith, early)); item = given.item; is = given.is; gives = given.gives }
          | inr gives ↦ record { place = i; before = omega arith; item = x; is = at; gives = gives }
        ],
        given_split i x other at,
      ))

  -- elements that give nothing
  pub given_past : (i end : ℕ) (old new : Reached) → i ≤ end
      → ((place : ℕ) (x : X) (other : ℕ) → i ≤ place → place < end → slice_get xs place ≡ Some x → ¬ Gives place x other)
      → Follows table target (IsGivenBefore Gives xs i) old new → Follows table target (IsGivenBefore Gives xs end) old new
  given_past i end old new further none before =
      followed_as table target (IsGivenBefore Gives xs i) (IsGivenBefore Gives xs end) old new
      (λ other. (
        λ given. record { place = given.place; before = (let early = given.before in omega (arith, early, further)); item = given.item; is = given.is; gives = given.gives },
        λ given. elim (cases_lt given.place i) [
          | inl early ↦ record { place = given.place; before = early; item = given.item; is = given.is; gives = given.gives }
          | inr late ↦ absurd (none given.place given.item other late given.before given.is given.gives)
        ],
      )) before

  -- after the last one it is all
  pub given_all : (i : ℕ) (P : ℕ → Type 0) (old new : Reached) → length xs ≤ i
      → ((other place : ℕ) (x : X) → slice_get xs place ≡ Some x → Gives place x other → P other)
      → ((other : ℕ) → P other → (place : ℕ) × (x : X) × (slice_get xs place ≡ Some x) × Gives place x other)
      → Follows table target (IsGivenBefore Gives xs i) old new → Follows table target P old new
  given_all i P old new past only every before =
      followed_as table target (IsGivenBefore Gives xs i) P old new
      (λ other. (
        λ given. only other given.place given.item given.is given.gives,
        λ h. let found = every other h in
            record { place = found.0; before = (let within = slice_get_within xs found.0 found.1 found.2 in omega (arith, within, past)); item = found.1; is = found.2; gives = found.3 },
      )) before

-- the waits of an owner on one file
module _ (policy : Policy) (table : Table) (target file owner : ℕ) (old : Reached) where
  abbrev Here : FileState
  Here = (table_state table).files file

  abbrev Gives : ℕ → Pending → ℕ → Type 0
  Gives = IsStepAt policy Here owner

  -- up to the next detected one
  pub waits_up_to : (from place : ℕ) (mid : Reached) → IsNextDetected Here.waits owner from place → Follows table target (IsGivenBefore Gives Here.waits from) old mid
      → Follows table target (IsGivenBefore Gives Here.waits place) old mid
  waits_up_to from place mid next before =
      given_past table target Gives Here.waits from place old mid next.at_or_behind
      (λ earlier x other late early at step. next.first earlier late early (x, at, step.detected, step.of_one)) before

  pub wait_more : (place : ℕ) (wait : Pending) (mid new : Reached) → slice_get Here.waits place ≡ Some wait → IsDetectedAt Here.waits owner place
      → Follows table target (IsGivenBefore Gives Here.waits place) old mid
      → Follows table target (IsBlockedByOwner policy Here (take place Here.waits) wait) mid new
      → Follows table target (IsGivenBefore Gives Here.waits (place + 1)) old new
  wait_more place wait mid new at detected before follows =
      let same : detected.0 ≡ wait = same_Some detected.0 wait (sym detected.1 ∙ at) in
      given_more table target Gives Here.waits place wait old mid new at before
      (followed_as table target (IsBlockedByOwner policy Here (take place Here.waits) wait) (Gives place wait) mid new
      (λ other. (
        λ blocked. record {
          detected = subst (λ (w : Pending). IsTrue w.detect) same detected.2;
          of_one = subst (λ (w : Pending). w.owner ≡ owner) same detected.3;
          blocked = blocked;
        },
        λ step. step.blocked,
      )) follows)

  pub waits_all : (from : ℕ) (new : Reached) → IsNoneDetected Here.waits owner from → Follows table target (IsGivenBefore Gives Here.waits from) old new
      → Follows table target (WaitsForOn policy Here owner) old new
  waits_all from new none before =
      given_all table target Gives Here.waits (from + length Here.waits) (WaitsForOn policy Here owner) old new (omega arith)
      (λ other place wait at step. step_from_place policy Here owner other place wait at step)
      (λ other step. place_of_step policy Here owner other step)
      (given_past table target Gives Here.waits from (from + length Here.waits) old new (omega arith)
      (λ place x other late early at step. none place late (x, at, step.detected, step.of_one)) before)

-- the files of an owner gave all for which it waits
module _ (policy : Policy) (table : Table) (target owner : ℕ) where
  pub files_all : (old new : Reached) (i : ℕ) → length (files_of table.waiters owner) ≤ i
      → Follows table target (IsGivenBefore
      (λ place file other. WaitsForOn policy (state_in table.files file) owner other) (files_of table.waiters owner) i) old new
      → Follows table target (WaitsFor policy (table_state table) owner) old new
  unfolding table_state entry_of
  files_all old new i past follows =
      given_all table target (λ place file other. WaitsForOn policy (state_in table.files file) owner other) (files_of table.waiters owner) i
      (WaitsFor policy (table_state table) owner) old new past (λ other place file at step. record { file = file; on_file = step })
      (λ other step.
      let among = file_of_step policy table.files table.tickets table.waiters table.indexed owner step.file other step.on_file in
      (among.0, step.file, slice_get-get_or (files_of table.waiters owner) among.0 step.file among.1 ∙ ap (λ (n : ℕ). Some n) among.2, step.on_file))
      follows
