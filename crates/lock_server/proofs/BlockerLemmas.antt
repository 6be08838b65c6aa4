-- The owners for which a wait on a file waits: for `add_steps`, `add_blockers`, `add_holders` and what that calls, `add_conflicting`.
use Rattle.lock_server.proofs.Common.{ℕ, ◌≡◌, ◌≢◌, ◌+◌, ◌<◌, ◌≤◌, ◌∙◌, ◌⊎◌, inl, inr, sym, ap, refl, subst, arith, suc, true, false, Option, Some, None, List, [], ◌∷◌, ◌++◌, Any, Contains, length, take, drop, map, ◌↔◌, IfNone, IfSome, IsTrue, is_some, slice_get, Bor, keys_of, deref_pair, cases_eq, cases_lt, take_at, length-append, map-append, Contains-append_left, Contains-push, Contains-push_cases, slice_get-get_or, slice_get_within, get_or_from_slice_get}
use Rattle.lock_server.proofs.Common.{Mode, Span, OwnerRuns, Conflict, Covers, HeldConflicts, Modes, Owner, Description, WaitsConflict, Family, Bytes, Whole, Policy, FlockLock, Lock, Pending, LockFile, AddsOwners, BlocksBefore, BlocksOn, IsFlockHolder, BlocksIn, IsBlockedByOwner, WaitsForOn, FileState, file_state, EndsBefore, IsFirstFrom, IsFlockLock, flock_place, as_wait}
use Rattle.std.proofs.Common.{min, max}
use Rattle.std.proofs.lemmas.List.{get_or_at}
use Rattle.range_core.specs.Ranges.{IsFirstHit}
use Rattle.lock_server.specs.Deadlock.{BlocksByBytes, BlocksByFlock}
use Rattle.lock_server.specs.Locks.{IsFirstLock, IsInTheWay}
use Rattle.lock_server.proofs.ExportLemmas.{HaveModes, description_same, list_there}
use Rattle.lock_server.proofs.GatheredOwnerLemmas.{AddsOwners-as, AddsOwners-both, AddsOwners-push, AddsOwners-same, Any-from_place, Any-place, IsGivenBefore, gathered_all}
use Rattle.lock_server.proofs.LeaveLemmas.{split_at}

-- the earlier wait, of this owner, conflicts with the wait
pub record IsBeforeInTheWay (wait earlier : Pending) (owner : ℕ) : Type 0 where
  pub of_owner : earlier.owner ≡ owner
  pub conflict : WaitsConflict (as_wait earlier) (as_wait wait)

-- the wait at this place is a detected one of the owner, and the other blocks it
pub record IsStepAt (policy : Policy) (F : FileState) (one place : ℕ) (wait : Pending) (other : ℕ) : Type 0 where
  pub detected : IsTrue wait.detect
  pub of_one : wait.owner ≡ one
  pub blocked : IsBlockedByOwner policy F (take place F.waits) wait other

-- all earlier waits gave their owners
pub all_in_the_way : (wait : Pending) (earlier : List Pending) (old new : List ℕ) (i : ℕ) → length earlier ≤ i
    → AddsOwners old new (IsGivenBefore (λ place v owner. IsBeforeInTheWay wait v owner) earlier i)
    → AddsOwners old new (λ owner. Any (λ v. (v.owner ≡ owner) × WaitsConflict (as_wait v) (as_wait wait)) earlier)
all_in_the_way wait earlier old new i past adds =
    gathered_all (λ place v owner. IsBeforeInTheWay wait v owner) earlier old new i (λ owner. Any (λ v. (v.owner ≡ owner) × WaitsConflict (as_wait v) (as_wait wait)) earlier) past
    (λ owner place v at way. Any-from_place (λ (v : Pending). (v.owner ≡ owner) × WaitsConflict (as_wait v) (as_wait wait)) earlier place v at (way.of_owner, way.conflict))
    (λ owner any.
    let found = Any-place (λ (v : Pending). (v.owner ≡ owner) × WaitsConflict (as_wait v) (as_wait wait)) earlier any in
    (found.0, found.1, found.2, record { of_owner = found.3.0; conflict = found.3.1 }))
    adds

-- a step at a place of the list is one of the file
pub step_from_place : (policy : Policy) (F : FileState) (one other place : ℕ) (wait : Pending) → slice_get F.waits place ≡ Some wait
    → IsStepAt policy F one place wait other → WaitsForOn policy F one other
step_from_place policy F one other place wait at step = record {
  before = take place F.waits;
  wait = wait;
  after = drop (suc place) F.waits;
  place = split_at F.waits place wait (slice_get_within F.waits place wait at) (get_or_from_slice_get F.waits place wait wait at);
  detected = step.detected;
  of_one = step.of_one;
  blocked = step.blocked;
}

-- and has one
pub place_of_step : (policy : Policy) (F : FileState) (one other : ℕ) → WaitsForOn policy F one other
    → (place : ℕ) × (wait : Pending) × (slice_get F.waits place ≡ Some wait) × IsStepAt policy F one place wait other
place_of_step policy F one other step =
    let n = length step.before in
    let sum = length-append step.before (step.wait ∷ step.after) in
    let there : slice_get (step.before ++ step.wait ∷ step.after) n ≡ Some step.wait =
    slice_get-get_or (step.before ++ step.wait ∷ step.after) n step.wait (omega arith)
    ∙ ap (λ (w : Pending). Some w) (get_or_at step.before step.wait step.after step.wait n refl) in
    let front : take n F.waits ≡ step.before = ap (λ (ws : List Pending). take n ws) step.place ∙ take_at step.before (step.wait ∷ step.after) n refl in (
      n,
      step.wait,
      ap (λ (ws : List Pending). slice_get ws n) step.place ∙ there,
      record {
        detected = step.detected;
        of_one = step.of_one;
        blocked = subst (λ (ws : List Pending). IsBlockedByOwner policy F ws step.wait other) (sym front) step.blocked;
      },
    )

-- all waits on the file gave those for which the owner waits
pub all_steps : (policy : Policy) (F : FileState) (one : ℕ) (old new : List ℕ) (i : ℕ) → length F.waits ≤ i
    → AddsOwners old new (IsGivenBefore (IsStepAt policy F one) F.waits i) → AddsOwners old new (WaitsForOn policy F one)
all_steps policy F one old new i past adds =
    gathered_all (IsStepAt policy F one) F.waits old new i (WaitsForOn policy F one) past
    (λ other place wait at step. step_from_place policy F one other place wait at step) (λ other step. place_of_step policy F one other step) adds

module _ (F : FileState) (owner : ℕ) (wanted : Mode) where
  -- where nothing is in the way, no owner has a lock that conflicts
  pub none_in_the_way : (span : Span) → ¬ IsInTheWay F owner span wanted → (other : ℕ) → ¬ BlocksOn F owner span wanted other
  none_in_the_way span free other blocks = free (record {
    byte = blocks.byte;
    covered = blocks.covered;
    other = Description other;
    blocks = record { another = λ same. blocks.another (description_same other owner same); conflicts = blocks.conflicts };
  })

  -- a run in the way on which no third owner has a lock that conflicts
  module _ (span run : Span) (lock : Lock) (found : IsFirstLock F owner span wanted lock) (from : run.first ≡ max lock.span.first span.first)
      (to : run.last ≡ min lock.span.last span.last) where
    -- it has the first byte that is blocked
    pub has_first : Covers run found.byte
    has_first =
        let inside = found.first.covered in
        let held : Covers lock.span found.byte = found.run.covered in
        (omega (arith, inside.0, held.0), omega (arith, inside.1, held.1))

    module _ (alone : ¬ IsInTheWay F lock.owner run wanted) (end : ℕ) (behind : end ≡ run.last + 1) where
      -- before its end only its owner blocks
      pub holder_alone : (other : ℕ) → BlocksBefore F owner span wanted end other → other ≡ lock.owner
      holder_alone other blocks = elim (cases_eq other lock.owner) [
        | inl same ↦ same
        | inr differs ↦ elim (cases_lt blocks.byte found.byte) [
          | inl before ↦
              absurd (found.first.least_byte blocks.byte (Description other) blocks.covered.0 before
              (record { another = λ same. blocks.another (description_same other owner same); conflicts = blocks.conflicts }))
          | inr after ↦
              (let has = has_first in
              let before = blocks.before in
              absurd (alone (record {
                byte = blocks.byte;
                covered = (omega (arith, after, has.0), omega (arith, before, behind));
                other = Description other;
                blocks = record { another = λ same. differs (description_same other lock.owner same); conflicts = blocks.conflicts };
              })))
        ]
      ]

      pub holder_blocks : BlocksBefore F owner span wanted end lock.owner
      holder_blocks = record {
        byte = found.byte;
        covered = found.first.covered;
        before = (let has = has_first in omega (arith, has.1, behind));
        another = λ same. found.first.blocks.another (ap (λ (n : ℕ). Description n) same);
        conflicts = found.first.blocks.conflicts;
      }

      pub holder_added : (old new : List ℕ) → new ≡ old ++ lock.owner ∷ [] → AddsOwners old new (BlocksBefore F owner span wanted end)
      holder_added old new items = AddsOwners-push old new lock.owner (BlocksBefore F owner span wanted end) items holder_blocks holder_alone

  -- what is before the end of the span is all
  pub up_to_end : (span : Span) (end : ℕ) → span.last < end → (other : ℕ) → BlocksBefore F owner span wanted end other ↔ BlocksOn F owner span wanted other
  up_to_end span end past other = (
    λ blocks. record { byte = blocks.byte; covered = blocks.covered; another = blocks.another; conflicts = blocks.conflicts },
    λ blocks. record {
      byte = blocks.byte;
      covered = blocks.covered;
      before = (let within = blocks.covered.1 in omega (arith, within, past));
      another = blocks.another;
      conflicts = blocks.conflicts;
    },
  )

  module _ (span rest : Span) (to : rest.last ≡ span.last) (from : span.first ≤ rest.first) (old mid new : List ℕ)
      (before : AddsOwners old mid (BlocksBefore F owner span wanted rest.first)) where
    -- a part of the rest more
    pub holders_more : (next : ℕ) → rest.first < next → AddsOwners mid new (BlocksBefore F owner rest wanted next)
        → AddsOwners old new (BlocksBefore F owner span wanted next)
    holders_more next further adds =
        AddsOwners-as old new (λ other. BlocksBefore F owner span wanted rest.first other ⊎ BlocksBefore F owner rest wanted next other)
        (BlocksBefore F owner span wanted next) (λ other. (
          λ either. elim either [
            | inl early ↦ record {
              byte = early.byte;
              covered = early.covered;
              before = (let b = early.before in omega (arith, b, further));
              another = early.another;
              conflicts = early.conflicts;
            }
            | inr late ↦ record {
              byte = late.byte;
              covered = (let c = late.covered in (omega (arith, c.0, from), omega (arith, c.1, to)));
              before = late.before;
              another = late.another;
              conflicts = late.conflicts;
            }
          ],
          λ blocks. elim (cases_lt blocks.byte rest.first) [
            | inl early ↦ inl (record { byte = blocks.byte; covered = blocks.covered; before = early; another = blocks.another; conflicts = blocks.conflicts })
            | inr late ↦ inr (record {
              byte = blocks.byte;
              covered = (late, (let c = blocks.covered in omega (arith, c.1, to)));
              before = blocks.before;
              another = blocks.another;
              conflicts = blocks.conflicts;
            })
          ],
        )) (AddsOwners-both old mid new (BlocksBefore F owner span wanted rest.first) (BlocksBefore F owner rest wanted next) before adds)

    -- the rest as a whole
    pub holders_rest : rest.first ≤ rest.last → AddsOwners mid new (BlocksOn F owner rest wanted) → AddsOwners old new (BlocksOn F owner span wanted)
    holders_rest any adds =
        let end : ℕ = rest.last + 1 in
        AddsOwners-as old new (BlocksBefore F owner span wanted end) (BlocksOn F owner span wanted) (up_to_end span end (omega (arith, to)))
        (holders_more end (omega (arith, any))
        (AddsOwners-as mid new (BlocksOn F owner rest wanted) (BlocksBefore F owner rest wanted end)
        (λ other. (let both = up_to_end rest end (omega arith) other in (both.1, both.0))) adds))

-- what is said where nothing was found
pub none_found : {X : Type 0} (found : Option X) (P : Type 0) → is_some found ≡ false → IfNone found P → P
none_found None P is holds = holds
none_found (Some x) P is holds = let h : true ≡ false = is in cc

-- no byte is before the first
pub none_before : (F : FileState) (owner : ℕ) (span : Span) (wanted : Mode) (other : ℕ) → ¬ BlocksBefore F owner span wanted span.first other
none_before F owner span wanted other blocks = let from = blocks.covered.0 in let early = blocks.before in omega (arith, from, early)

-- what is held on the bytes of a wait, said of the wait
blocks_by_bytes : (F : FileState) (wait : Pending) (other : ℕ) → BlocksOn F wait.owner wait.span wait.mode other ↔ BlocksByBytes F wait other
blocks_by_bytes F wait other = (
  λ b. record { byte = b.byte; covered = b.covered; another = b.another; conflicts = b.conflicts },
  λ b. record { byte = b.byte; covered = b.covered; another = b.another; conflicts = b.conflicts },
)

blocks_by_flock : (F : FileState) (wait : Pending) (other : ℕ) → IsFlockHolder F wait.owner wait.mode other ↔ BlocksByFlock F wait other
blocks_by_flock F wait other = (
  λ b. record { another = b.another; conflicts = b.conflicts },
  λ b. record { another = b.another; conflicts = b.conflicts },
)

-- of a wait, by its family
pub by_bytes : (F : FileState) (wait : Pending) → wait.family ≡ Bytes → (other : ℕ)
    → BlocksOn F wait.owner wait.span wait.mode other ↔ BlocksIn wait.family F wait other
by_bytes F wait is other = subst (λ (f : Family). BlocksOn F wait.owner wait.span wait.mode other ↔ BlocksIn f F wait other) (sym is) (blocks_by_bytes F wait other)

pub by_flock : (F : FileState) (wait : Pending) → wait.family ≡ Whole → (other : ℕ)
    → IsFlockHolder F wait.owner wait.mode other ↔ BlocksIn wait.family F wait other
by_flock F wait is other = subst (λ (f : Family). IsFlockHolder F wait.owner wait.mode other ↔ BlocksIn f F wait other) (sym is) (blocks_by_flock F wait other)

-- of the lists so far the owner is one that blocks
pub record IsListedHolder (F : FileState) (owner : ℕ) (span : Span) (wanted : Mode) (entries : List (Bor Owner × Bor OwnerRuns)) (other : ℕ) : Type 0 where
  pub listed : Contains (map (λ e. e.0.now) entries) (Description other)
  pub blocks : BlocksOn F owner span wanted other

module _ (F : FileState) (owner : ℕ) (span : Span) (wanted : Mode) (entries : List (Bor Owner × Bor OwnerRuns)) (entry : Bor Owner × Bor OwnerRuns) where
  abbrev Keys : List (Bor Owner × Bor OwnerRuns) → List Owner
  Keys es = map (λ e. e.0.now) es

  one_more : Keys (entries ++ entry ∷ []) ≡ Keys entries ++ entry.0.now ∷ []
  one_more = map-append (λ (e : Bor Owner × Bor OwnerRuns). e.0.now) entries (entry ∷ [])

  -- one list more, of an owner that blocks just where it is added
  pub listed_more : (old mid new : List ℕ) → AddsOwners old mid (IsListedHolder F owner span wanted entries)
      → AddsOwners mid new (λ other. (entry.0.now ≡ Description other) × BlocksOn F owner span wanted other)
      → AddsOwners old new (IsListedHolder F owner span wanted (entries ++ entry ∷ []))
  listed_more old mid new so_far adds =
      AddsOwners-as old new
      (λ other. IsListedHolder F owner span wanted entries other ⊎ ((entry.0.now ≡ Description other) × BlocksOn F owner span wanted other))
      (IsListedHolder F owner span wanted (entries ++ entry ∷ []))
      (λ other. (
        λ either. elim either [
          | inl before ↦ record {
            listed = subst (λ (ks : List Owner). Contains ks (Description other)) (sym one_more) (Contains-append_left (Keys entries) (entry.0.now ∷ []) (Description other) before.listed);
            blocks = before.blocks;
          }
          | inr here ↦ record {
            listed = subst (λ (ks : List Owner). Contains ks (Description other)) (sym one_more)
                (subst (λ (o : Owner). Contains (Keys entries ++ entry.0.now ∷ []) o) here.0 (Contains-push (Keys entries) entry.0.now));
            blocks = here.1;
          }
        ],
        λ listed. elim (Contains-push_cases (Keys entries) entry.0.now (Description other) (subst (λ (ks : List Owner). Contains ks (Description other)) one_more listed.listed)) [
          | inl before ↦ inl (record { listed = before; blocks = listed.blocks })
          | inr is ↦ inr (is, listed.blocks)
        ],
      ))
      (AddsOwners-both old mid new (IsListedHolder F owner span wanted entries)
      (λ other. (entry.0.now ≡ Description other) × BlocksOn F owner span wanted other) so_far adds)

  -- a list on which no byte of the span conflicts, or of the owner itself, or of a process
  pub listed_skip : (old mid : List ℕ) → AddsOwners old mid (IsListedHolder F owner span wanted entries)
      → ((other : ℕ) → entry.0.now ≡ Description other → ¬ BlocksOn F owner span wanted other)
      → AddsOwners old mid (IsListedHolder F owner span wanted (entries ++ entry ∷ []))
  listed_skip old mid so_far none =
      listed_more old mid mid so_far
      (AddsOwners-same mid (λ other. (entry.0.now ≡ Description other) × BlocksOn F owner span wanted other) (λ other here. none other here.0 here.1))

  pub listed_push : (old mid new : List ℕ) (number : ℕ) → AddsOwners old mid (IsListedHolder F owner span wanted entries)
      → entry.0.now ≡ Description number → new ≡ mid ++ number ∷ [] → BlocksOn F owner span wanted number
      → AddsOwners old new (IsListedHolder F owner span wanted (entries ++ entry ∷ []))
  listed_push old mid new number so_far is items blocks =
      listed_more old mid new so_far
      (AddsOwners-push mid new number (λ other. (entry.0.now ≡ Description other) × BlocksOn F owner span wanted other) items (is, blocks)
      (λ other here. description_same other number (sym here.0 ∙ is)))

-- all lists were looked at
keys_shown : (entries : List (Bor Owner × Bor OwnerRuns)) → map (λ e. e.0.now) entries ≡ keys_of (map deref_pair entries)
keys_shown [] = refl
keys_shown (entry ∷ entries) = ap (λ (l : List Owner). entry.0.now ∷ l) (keys_shown entries)

held_mode : (held : Option Mode) (wanted : Mode) → HeldConflicts held wanted → (mode : Mode) × (held ≡ Some mode)
held_mode None wanted conflict = absurd conflict
held_mode (Some mode) wanted conflict = (mode, refl)

-- a list with a byte that conflicts, and one without
pub hit_blocks : (F : FileState) (owner : ℕ) (span : Span) (wanted : Mode) (other : ℕ) (modes : Modes) (found : Option ℕ) → is_some found ≡ true
    → IfSome found (IsFirstHit modes span wanted) → ((byte : ℕ) → modes byte ≡ F.bytes other byte) → other ≢ owner → BlocksOn F owner span wanted other
hit_blocks F owner span wanted other modes None is hit same another = let h : false ≡ true = is in cc
hit_blocks F owner span wanted other modes (Some byte) is hit same another = record {
  byte = byte;
  covered = hit.covered;
  another = another;
  conflicts = subst (λ (held : Option Mode). HeldConflicts held wanted) (same byte) hit.hit;
}

pub no_hit : (F : FileState) (owner : ℕ) (span : Span) (wanted : Mode) (other : ℕ) (modes : Modes) (found : Option ℕ) → is_some found ≡ false
    → IfNone found ((byte : ℕ) → Covers span byte → ¬ HeldConflicts (modes byte) wanted) → ((byte : ℕ) → modes byte ≡ F.bytes other byte)
    → ¬ BlocksOn F owner span wanted other
no_hit F owner span wanted other modes (Some byte) is none same blocks = let h : true ≡ false = is in cc
no_hit F owner span wanted other modes None is none same blocks =
    none blocks.byte blocks.covered (subst (λ (held : Option Mode). HeldConflicts held wanted) (sym (same blocks.byte)) blocks.conflicts)

pub listed_all : (file : LockFile) (owner : ℕ) (span : Span) (wanted : Mode) (lists : List (Owner × OwnerRuns)) (entries : List (Bor Owner × Bor OwnerRuns))
    (old new : List ℕ) → HaveModes file.book lists → map deref_pair entries ≡ lists
    → AddsOwners old new (IsListedHolder (file_state file) owner span wanted entries) → AddsOwners old new (BlocksOn (file_state file) owner span wanted)
unfolding file_state
listed_all file owner span wanted lists entries old new have whole adds =
    let F : FileState = file_state file in
    AddsOwners-as old new (IsListedHolder F owner span wanted entries) (BlocksOn F owner span wanted)
    (λ other. (
      λ listed. listed.blocks,
      λ blocks.
          let held = held_mode (F.bytes other blocks.byte) wanted blocks.conflicts in
          record {
            listed = subst (λ (ks : List Owner). Contains ks (Description other)) (sym (keys_shown entries ∙ ap (λ (l : List (Owner × OwnerRuns)). keys_of l) whole))
                (list_there file.book lists (Description other) have blocks.byte held.0 held.1);
            blocks = blocks;
          },
    )) adds

-- the flock locks of lesser owners gave those that block
pub record IsFlockHolderBelow (F : FileState) (owner : ℕ) (wanted : Mode) (end other : ℕ) : Type 0 where
  pub below : other < end
  pub holds : IsFlockHolder F owner wanted other

module _ (F : FileState) (owner : ℕ) (wanted : Mode) (old mid new : List ℕ) (end : ℕ) (so_far : AddsOwners old mid (IsFlockHolderBelow F owner wanted end)) where
  -- the next lock is of an owner that blocks just where it is added
  pub flocks_more : (lock : FlockLock) → IsFirstFrom flock_place (IsFlockLock F) (end ∷ []) lock
      → AddsOwners mid new (λ other. (other ≡ lock.owner) × IsFlockHolder F owner wanted other)
      → AddsOwners old new (IsFlockHolderBelow F owner wanted (lock.owner + 1))
  flocks_more lock found adds =
      let from : end ≤ lock.owner = elim (cases_lt lock.owner end) [ inl before ↦ absurd (found.from_there (inl before)) | inr from ↦ from ] in
      AddsOwners-as old new (λ other. IsFlockHolderBelow F owner wanted end other ⊎ ((other ≡ lock.owner) × IsFlockHolder F owner wanted other))
      (IsFlockHolderBelow F owner wanted (lock.owner + 1))
      (λ other. (
        λ either. elim either [
          | inl before ↦ record { below = (let b = before.below in omega (arith, b, from)); holds = before.holds }
          | inr here ↦ record { below = (let same = here.0 in omega (arith, same)); holds = here.1 }
        ],
        λ holder. elim (cases_lt other end) [
          | inl before ↦ inl (record { below = before; holds = holder.holds })
          | inr behind ↦ elim (cases_lt other lock.owner) [
            | inl between ↦
                (let held = held_mode (F.flocks other) wanted holder.holds.conflicts in
                let early = found.first (record { owner = other; mode = held.0 }) held.1 (inl between) in
                elim early [
                  | inl before ↦ absurd (omega (arith, before, behind))
                  | inr (same, none) ↦ absurd none
                ])
            | inr past ↦ inr ((let b = holder.below in omega (arith, b, past)), holder.holds)
          ]
        ],
      ))
      (AddsOwners-both old mid new (IsFlockHolderBelow F owner wanted end) (λ other. (other ≡ lock.owner) × IsFlockHolder F owner wanted other) so_far adds)

  -- it blocks
  pub flock_pushed : (lock : FlockLock) → IsFirstFrom flock_place (IsFlockLock F) (end ∷ []) lock → lock.owner ≢ owner → Conflict lock.mode wanted
      → new ≡ mid ++ lock.owner ∷ [] → AddsOwners old new (IsFlockHolderBelow F owner wanted (lock.owner + 1))
  flock_pushed lock found another conflicts items =
      flocks_more lock found
      (AddsOwners-push mid new lock.owner (λ other. (other ≡ lock.owner) × IsFlockHolder F owner wanted other) items
      (refl, record { another = another; conflicts = subst (λ (held : Option Mode). HeldConflicts held wanted) (sym found.listed) conflicts })
      (λ other here. here.0))

  -- it doesn't
  pub flock_skipped : (lock : FlockLock) → IsFirstFrom flock_place (IsFlockLock F) (end ∷ []) lock → new ≡ mid
      → (lock.owner ≡ owner) ⊎ (¬ Conflict lock.mode wanted) → AddsOwners old new (IsFlockHolderBelow F owner wanted (lock.owner + 1))
  flock_skipped lock found same not =
      flocks_more lock found
      (subst (λ (l : List ℕ). AddsOwners mid l (λ other. (other ≡ lock.owner) × IsFlockHolder F owner wanted other)) (sym same)
      (AddsOwners-same mid (λ other. (other ≡ lock.owner) × IsFlockHolder F owner wanted other)
      (λ other here. elim not [
        | inl own ↦ here.1.another (here.0 ∙ own)
        | inr apart ↦
            apart (subst (λ (held : Option Mode). HeldConflicts held wanted)
            (subst (λ (n : ℕ). F.flocks n ≡ Some lock.mode) (sym here.0) found.listed) here.1.conflicts)
      ])))

-- there is none behind
pub flocks_all : (F : FileState) (owner : ℕ) (wanted : Mode) (old new : List ℕ) (end : ℕ) → EndsBefore flock_place (IsFlockLock F) (end ∷ [])
    → AddsOwners old new (IsFlockHolderBelow F owner wanted end) → AddsOwners old new (IsFlockHolder F owner wanted)
flocks_all F owner wanted old new end ends adds =
    AddsOwners-as old new (IsFlockHolderBelow F owner wanted end) (IsFlockHolder F owner wanted)
    (λ other. (
      λ below. below.holds,
      λ holds. record {
        below =
            (let held = held_mode (F.flocks other) wanted holds.conflicts in
            elim (ends.earlier (record { owner = other; mode = held.0 }) held.1) [ inl before ↦ before | inr (same, none) ↦ absurd none ]);
        holds = holds;
      },
    )) adds
