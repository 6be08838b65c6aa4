-- The owners that are put behind those that were reached: for `add_going_on`, `add_steps` of a table, `would_cycle`.
use Rattle.lock_server.proofs.Common.{common_steps, ℕ, ◌≡◌, ◌≢◌, ◌==◌, ◌+◌, ◌<◌, ◌≤◌, ◌∙◌, inl, inr, sym, ap, refl, subst, arith, suc, cond, Bool, true, false, Some, None, List, [], ◌∷◌, ◌++◌, Contains, length, get_or, ◌↔◌, ◌&&◌, IsTrue, slice_get, list_any, cases_lt, cases_eq, eqb-true, eq-eqb, ne_eqb, length-append, Contains-append_left, Contains-append_cases, Contains-push, Contains-push_cases, sum_by-cons, same_Some, slice_get-get_or, slice_get_cases, slice_get_within, get_or_from_slice_get}
use Rattle.lock_server.proofs.Common.{Family, Bytes, Whole, Policy, Pending, Files, Table, Tickets, Waiters, BlocksIn, IsBlockedByOwner, WaitsFor, WaitsForOn, FileState, untouched, IsIndexed, detected_waits, state_in, entry_of, table_state, AddsGoingOn, AddsOwners, IsGoingOn, files_of, times}
use Rattle.std.specs.Prelude.{not}
use Rattle.std.proofs.lemmas.List.{append_assoc}
use Rattle.std.proofs.lemmas.Map.Views.{Contains-from_any}
use Rattle.lock_server.specs.Deadlock.{ClosesCycle}
use Rattle.lock_server.specs.Blockers.{AddsOnce, SomeLeadsTo}
use Rattle.lock_server.proofs.ChainLemmas.{first_step}
use Rattle.lock_server.proofs.GatheredOwnerLemmas.{IsGivenBefore, gathered_all}
use Rattle.lock_server.proofs.LeaveLemmas.{counted_with}

-- of the first so many owners those that go on were added
pub record IsAddedBefore (waiters : Waiters) (target : ℕ) (owners old new : List ℕ) (n : ℕ) : Type 0 where
  pub more : List ℕ
  pub is : new ≡ old ++ more
  pub only : (other : ℕ) → Contains more other → Contains owners other × IsGoingOn waiters target other
  pub all : (other place : ℕ) → place < n → slice_get owners place ≡ Some other → IsGoingOn waiters target other → Contains new other

module _ (waiters : Waiters) (target : ℕ) (owners old : List ℕ) where
  -- this one is there, or doesn't go on
  pub added_skip : (new : List ℕ) (i owner : ℕ) → slice_get owners i ≡ Some owner → IsAddedBefore waiters target owners old new i
      → (IsGoingOn waiters target owner → Contains new owner)
      → IsAddedBefore waiters target owners old new (i + 1)
  added_skip new i owner at before there = record {
    more = before.more;
    is = before.is;
    only = before.only;
    all = λ other place early is goes. elim (cases_lt place i) [
      | inl earlier ↦ before.all other place earlier is goes
      | inr past ↦
          (let here : place ≡ i = omega arith in
          let same : owner ≡ other = same_Some owner other (sym at ∙ subst (λ (k : ℕ). slice_get owners k ≡ Some other) here is) in
          subst (λ (n : ℕ). Contains new n) same (there (subst (λ (n : ℕ). IsGoingOn waiters target n) (sym same) goes)))
    ];
  }

  -- this one is put behind
  pub added_push : (new after : List ℕ) (i owner : ℕ) → slice_get owners i ≡ Some owner → after ≡ new ++ owner ∷ [] → IsGoingOn waiters target owner
      → IsAddedBefore waiters target owners old new i → IsAddedBefore waiters target owners old after (i + 1)
  added_push new after i owner at items going before =
      let among : Contains owners owner = (i, slice_get_within owners i owner at, get_or_from_slice_get owners i owner owner at) in
      added_skip after i owner at
      (record {
        more = before.more ++ owner ∷ [];
        is = items ∙ ap (λ (l : List ℕ). l ++ owner ∷ []) before.is ∙ append_assoc old before.more (owner ∷ []);
        only = λ other h. elim (Contains-push_cases before.more owner other h) [
          | inl early ↦ before.only other early
          | inr is ↦ subst (λ (n : ℕ). Contains owners n × IsGoingOn waiters target n) is (among, going)
        ];
        all = λ other place early is goes. rw items (Contains-append_left new (owner ∷ []) other (before.all other place early is goes));
      })
      (λ goes. rw items (Contains-push new owner))

  -- this one is put behind, or is there
  pub added_once : (new after : List ℕ) (i owner : ℕ) → slice_get owners i ≡ Some owner → AddsOnce new after owner → IsGoingOn waiters target owner
      → IsAddedBefore waiters target owners old new i → IsAddedBefore waiters target owners old after (i + 1)
  added_once new after i owner at (inl items) going before = added_push new after i owner at items going before
  added_once new after i owner at (inr there) going before =
      subst (λ (xs : List ℕ). IsAddedBefore waiters target owners old xs (i + 1)) (sym there.0) (added_skip new i owner at before (λ goes. there.1))

  -- all were looked at
  pub added_all : (new : List ℕ) (i : ℕ) → length owners ≤ i → IsAddedBefore waiters target owners old new i
      → AddsGoingOn waiters target (Contains owners) old new
  added_all new i past before = record {
    more = before.more;
    is = before.is;
    adds = record {
      kept = λ other among. subst (λ (l : List ℕ). Contains l other) (sym before.is) (Contains-append_left old before.more other among);
      added = λ other here.
          before.all other here.0.0 (let within = here.0.1 in omega arith)
          (slice_get-get_or owners here.0.0 other here.0.1 ∙ ap (λ (n : ℕ). Some n) here.0.2) here.1;
      only = λ other among. elim (Contains-append_cases old before.more other (subst (λ (l : List ℕ). Contains l other) before.is among)) [
        | inl early ↦ inl early
        | inr new ↦ inr (before.only other new)
      ];
    };
  }

-- an owner that isn't new was known, and who is known is among those that were reached
pub not_new : (known new : Bool) → new ≡ not known → new ≡ false → known ≡ true
not_new true new is old = refl
not_new false new is old = let h : false ≡ true = sym old ∙ is in cc

pub known_among : (owners : List ℕ) (owner : ℕ) → list_any (λ other. other == owner) owners ≡ true → Contains owners owner
known_among owners owner known = Contains-from_any {eq = λ x y. y == x} (λ x y same. sym (eqb-true y x same)) owner owners known

-- what stands at a place of the list, and where its end is
pub read_at : (xs : List ℕ) (i : ℕ) (x : ℕ) → slice_get xs i ≡ Some x → (i < length xs) × (x ≡ get_or xs i x)
read_at xs i x is = (slice_get_within xs i x is, sym (get_or_from_slice_get xs i x x is))

pub read_past : (xs : List ℕ) (i : ℕ) → slice_get xs i ≡ None → length xs ≤ i
read_past xs i is = grind (arith, common_steps, slice_get_cases)

-- what was gathered from nothing
pub gathered_from_none : (old new : List ℕ) (P : ℕ → Type 0) → old ≡ [] → AddsOwners old new P → (other : ℕ) → Contains new other ↔ P other
gathered_from_none old new P empty adds other = grind (arith, common_steps)

-- a file that counts stands somewhere
pub times_place : (file : ℕ) (files : List ℕ) → times file files ≢ 0 → Contains files file
times_place file [] some = absurd (some refl)
times_place file (other ∷ files) some = elim (cases_eq other file) [
  | inl same ↦ (0, (let n = length files in omega arith), same)
  | inr differs ↦
      (let head : times file (other ∷ files) ≡ cond (other == file) 1 0 + times file files = sum_by-cons (λ (any : ℕ). cond (any == file) 1 0) other files in
      let apart : times file (other ∷ files) ≡ 0 + times file files =
      subst (λ (b : Bool). times file (other ∷ files) ≡ cond b 1 0 + times file files) (ne_eqb other file differs) head in
      let there = times_place file files (λ none. some (omega arith)) in
      (suc there.0, (let within = there.1 in omega arith), there.2))
]

-- an owner that waits on the file has it among its files
pub file_of_step : (policy : Policy) (files : Files) (tickets : Tickets) (waiters : Waiters) → IsIndexed files tickets waiters
    → (owner file other : ℕ)
    → WaitsForOn policy (state_in files file) owner other → Contains (files_of waiters owner) file
file_of_step policy files tickets waiters known owner file other step =
    let test = λ (wait : Pending). wait.detect && (wait.owner == owner) in
    let passes : test step.wait ≡ true = rw step.detected (eq-eqb step.wait.owner owner step.of_one) in
    let split : detected_waits (state_in files file).waits owner ≡ detected_waits (step.before ++ step.wait ∷ step.after) owner = ap (λ (waits : List Pending). detected_waits waits owner) step.place in
    let counted : detected_waits (step.before ++ step.wait ∷ step.after) owner ≡ detected_waits (step.before ++ step.after) owner + 1 =
    subst (λ (b : Bool). detected_waits (step.before ++ step.wait ∷ step.after) owner ≡ detected_waits (step.before ++ step.after) owner + cond b 1 0) passes
    (counted_with test step.before step.after step.wait) in
    let times_there : times file (files_of waiters owner) ≡ detected_waits (state_in files file).waits owner = known.detected owner file in
    times_place file (files_of waiters owner) (λ none. omega arith)

-- an owner that waits goes on
pub waits_goes_on : (policy : Policy) (files : Files) (tickets : Tickets) (waiters : Waiters) → IsIndexed files tickets waiters
    → (target owner file other : ℕ)
    → WaitsForOn policy (state_in files file) owner other → IsGoingOn waiters target owner
waits_goes_on policy files tickets waiters known target owner file other step =
    let among = file_of_step policy files tickets waiters known owner file other step in
    inr (λ none. let empty : length (files_of waiters owner) ≡ 0 = ap (λ (fs : List ℕ). length fs) none in let within = among.1 in omega arith)

module _ (policy : Policy) (table : Table) where
  -- the files of an owner gave all for which it waits
  pub all_files : (owner : ℕ) (old new : List ℕ) (i : ℕ) → length (files_of table.waiters owner) ≤ i
      → AddsOwners old new (IsGivenBefore
      (λ place file other. WaitsForOn policy (state_in table.files file) owner other) (files_of table.waiters owner) i)
      → AddsOwners old new (WaitsFor policy (table_state table) owner)
  unfolding table_state entry_of
  all_files owner old new i past adds =
      gathered_all (λ place file other. WaitsForOn policy (state_in table.files file) owner other) (files_of table.waiters owner) old new i
      (WaitsFor policy (table_state table) owner) past (λ other place file at step. record { file = file; on_file = step })
      (λ other step.
      let among = file_of_step policy table.files table.tickets table.waiters table.indexed owner step.file other step.on_file in
      (among.0, step.file, slice_get-get_or (files_of table.waiters owner) among.0 step.file among.1 ∙ ap (λ (n : ℕ). Some n) among.2, step.on_file))
      adds

  -- an owner that waits for another goes on
  pub step_goes_on : (target one other : ℕ) → WaitsFor policy (table_state table) one other → IsGoingOn table.waiters target one
  unfolding table_state entry_of
  step_goes_on target one other step =
      waits_goes_on policy table.files table.tickets table.waiters table.indexed target one step.file other step.on_file

-- nobody waits on an untouched file
pub no_step_there : (policy : Policy) (one other : ℕ) → ¬ WaitsForOn policy untouched one other
no_step_there policy one other step = grind (arith, common_steps, length-append)

blocks_in_another : (family : Family) (F : FileState) (wait : Pending) (other : ℕ) → BlocksIn family F wait other → other ≢ wait.owner
blocks_in_another Bytes F wait other blocks same = blocks.another same
blocks_in_another Whole F wait other blocks same = blocks.another same

-- who blocks a wait is another owner
pub another_blocks : (policy : Policy) (F : FileState) (earlier : List Pending) (wait : Pending) (other : ℕ)
    → IsBlockedByOwner policy F earlier wait other → other ≢ wait.owner
another_blocks policy F earlier wait other h = grind (arith, common_steps, blocks_in_another)

-- some owner that was reached from those that block the wait leads to its own, just where the wait closes a cycle
pub closes_cycle : (policy : Policy) (table : Table) (file : ℕ) (wanted : Pending) (blockers reached : List ℕ) (answer : Bool)
    → AddsOwners [] blockers (IsBlockedByOwner policy ((table_state table).files file) ((table_state table).files file).waits wanted)
    → AddsGoingOn table.waiters wanted.owner (Contains blockers) [] reached
    → IsTrue answer ↔ SomeLeadsTo policy (table_state table) reached wanted.owner
    → IsTrue answer ↔ ClosesCycle policy (table_state table) file wanted
closes_cycle policy table file wanted blockers reached answer adds going says = (
  λ yes. to_cycle (says.0 yes),
  λ cycle. says.1 (record { owner = cycle.blocker; among = in_reached cycle; leads = inr cycle.led }),
)
  where
    nothing : (other : ℕ) → ¬ Contains [] other
    nothing other among = let within : among.0 < 0 = among.1 in omega arith

    among : (some : SomeLeadsTo policy (table_state table) reached wanted.owner) → Contains blockers some.owner
    among some = elim (going.adds.only some.owner some.among) [ inl none ↦ absurd (nothing some.owner none) | inr here ↦ here.0 ]

    to_cycle : SomeLeadsTo policy (table_state table) reached wanted.owner → ClosesCycle policy (table_state table) file wanted
    to_cycle some =
        let blocked : IsBlockedByOwner policy ((table_state table).files file) ((table_state table).files file).waits wanted some.owner = elim (adds.only some.owner (among some)) [
          | inl none ↦ absurd (nothing some.owner none)
          | inr blocks ↦ blocks
        ] in
        elim some.leads [
          | inl same ↦ absurd (another_blocks policy ((table_state table).files file) ((table_state table).files file).waits wanted some.owner blocked same)
          | inr led ↦ record { blocker = some.owner; blocked = blocked; led = led }
        ]

    in_reached : (cycle : ClosesCycle policy (table_state table) file wanted) → Contains reached cycle.blocker
    in_reached cycle =
        let on = first_step (WaitsFor policy (table_state table)) cycle.blocker cycle.led.0 wanted.owner cycle.led.1 in
        going.adds.added cycle.blocker (adds.added cycle.blocker cycle.blocked, step_goes_on policy table wanted.owner cycle.blocker on.0 on.1)
