use Rattle.lock_server.proofs.Common.{◌≡◌, ◌∙◌, inl, inr, refl, sym, subst, false, true, Some, [], IsTrue, whole_file, Whole, FileState, HasAlready, IsBlockedUnless, IsHeldBack, State, table_state}
use Rattle.lock_server.proofs.FlockLemmas.{never_refused, place_from_room, released_by_set, set_as_asked}
use Rattle.lock_server.proofs.ListLemmas.{held_back, unless_same}
use Rattle.lock_server.proofs.SafeLemmas.{moves_given, moves_unset}
use Rattle.lock_server.proofs.ServerLemmas.{ComesToRest, changes_at_rest, safe_rested_joined, safe_rested_twice, swept}
use Rattle.lock_server.proofs.StateLemmas.{file_from_same, state_from_same}
use Rattle.lock_server.proofs.SweptLemmas.{HasNoLock, flock_set, swept_with_lock}
use Rattle.lock_server.proofs.converting.convert_or_wait.Goals.{After-set_flock-2, After-settle-2, After-sweep}
use Rattle.lock_server.proofs.converting.convert_or_wait.Goals as goal

pub set_flock-requires : goal.set_flock-requires
set_flock-requires c = place_from_room c.args.table.now c.args.file c.args.wanted c.requires.flock.0 c.requires.room

pub join-requires-clause-room : goal.join-requires-clause-room
join-requires-clause-room c = c.set_flock.ensures.room.requests c.args.wanted c.requires.flock.0 c.requires.flock.1 c.requires.room

-- the wait has joined, and the file has come to rest
rest : (c : After-sweep) → ComesToRest c.args.policy (table_state c.join.new.self) c.args.file (table_state c.sweep.new.self)
rest c =
    swept c.args.policy (table_state c.join.new.self) c.args.file (table_state c.settle.new.self) (table_state c.sweep.new.self)
    (record { settles = c.settle.ensures.settles; settled = c.settle.ensures.settled }) c.sweep.ensures.same

pub returns-then-blocks_unless-clause-comes_to : goal.returns-then-blocks_unless-clause-comes_to
returns-then-blocks_unless-clause-comes_to c =
    let at = goal.at.returns-then-blocks_unless-clause-comes_to c in
    let S = table_state c.args.table.now in
    let gone = table_state c.set_flock.new.self in
    let F = gone.files c.args.file in
    let Had = HasAlready (S.files c.args.file) c.args.wanted in
    let blocked = unless_same c.args.policy F F.waits c.args.wanted (IsTrue c.has_already-had.result) Had c.has_already-had.ensures
    (c.blocks_unless.ensures.0 c.if-blocks_unless.true) in (
      gone,
      released_by_set S c.args.file c.args.wanted.owner gone c.set_flock.ensures.sets,
      inl (blocked, (refl, table_state c.join.new.self, c.join.ensures.suspends, (rest at.After-sweep).settles)),
    )

pub returns-then-blocks_unless-clause-safe : goal.returns-then-blocks_unless-clause-safe
returns-then-blocks_unless-clause-safe c safe =
    let at = goal.at.returns-then-blocks_unless-clause-safe c in
    let table = c.args.table.now in
    let gone = table_state c.set_flock.new.self in
    safe_rested_joined c.args.policy table c.sweep.new.self [] gone c.args.file c.args.wanted (table_state c.join.new.self) safe
    (moves_unset (table_state table) c.args.file Whole c.args.wanted.owner whole_file gone c.set_flock.ensures.sets) c.join.ensures.suspends
    (never_refused c.args.policy gone c.args.file c.args.wanted c.requires.flock.1) (rest at.After-sweep)

pub set_flock-requires-2 : goal.set_flock-requires-2
set_flock-requires-2 c = c.set_flock.ensures.room.places c.args.wanted.owner (place_from_room c.args.table.now c.args.file c.args.wanted c.requires.flock.0 c.requires.room)

pub give_back-requires : goal.give_back-requires
give_back-requires c =
    (c.set_flock-2.ensures.room.requests c.args.wanted c.requires.flock.0 c.requires.flock.1
    (c.set_flock.ensures.room.requests c.args.wanted c.requires.flock.0 c.requires.flock.1 c.requires.room)).ticket

-- nothing blocks the request, and the file has come to rest behind its set
open_still : (c : After-set_flock-2) → ¬ IsBlockedUnless c.args.policy ((table_state c.set_flock.new.self).files c.args.file)
    ((table_state c.set_flock.new.self).files c.args.file).waits c.args.wanted (HasAlready ((table_state c.args.table.now).files c.args.file) c.args.wanted)
open_still c blocked =
    let F = (table_state c.set_flock.new.self).files c.args.file in
    let Had = HasAlready ((table_state c.args.table.now).files c.args.file) c.args.wanted in
    let same = c.has_already-had.ensures in
    let is = c.blocks_unless.ensures.1 (unless_same c.args.policy F F.waits c.args.wanted Had (IsTrue c.has_already-had.result) (same.1, same.0) blocked) in
    let isnt = c.if-blocks_unless.false in let h : true ≡ false = sym is ∙ isnt in cc

rest_set : (c : After-settle-2) → ComesToRest c.args.policy (table_state c.set_flock-2.new.self) c.args.file (table_state c.settle-2.new.self)
rest_set c =
    subst (λ (M : State). ComesToRest c.args.policy M c.args.file (table_state c.settle-2.new.self))
    (state_from_same (table_state c.set_flock-2.new.self) (table_state c.give_back.new.self) c.give_back.ensures.same)
    (record { settles = c.settle-2.ensures.settles; settled = c.settle-2.ensures.settled })

pub returns-clause-comes_to : goal.returns-clause-comes_to
returns-clause-comes_to c =
    let at = goal.at.returns-clause-comes_to c in
    let gone = table_state c.set_flock.new.self in
    let set = table_state c.set_flock-2.new.self in
    let wanted = c.args.wanted in
    let sets = set_as_asked gone c.args.file wanted set c.requires.flock.0 c.set_flock-2.ensures.sets in (
      gone,
      released_by_set (table_state c.args.table.now) c.args.file wanted.owner gone c.set_flock.ensures.sets,
      inr (
        open_still at.After-set_flock-2,
        (
          refl,
          changes_at_rest c.args.policy gone c.args.file wanted.family wanted.owner wanted.span (Some wanted.mode) set (table_state c.settle-2.new.self) sets
              (rest_set at.After-settle-2),
        ),
      ),
    )

pub returns-clause-safe : goal.returns-clause-safe
returns-clause-safe c safe =
    let at = goal.at.returns-clause-safe c in
    let table = c.args.table.now in
    let wanted = c.args.wanted in
    let gone = table_state c.set_flock.new.self in
    let set = table_state c.set_flock-2.new.self in
    let F = gone.files c.args.file in
    let free : ¬ IsHeldBack F wanted = λ held. open_still at.After-set_flock-2 (held_back c.args.policy F F.waits wanted (HasAlready ((table_state table).files c.args.file) wanted) held) in
    safe_rested_twice c.args.policy table c.settle-2.new.self [] _ gone set c.args.file safe
    (moves_unset (table_state table) c.args.file Whole wanted.owner whole_file gone c.set_flock.ensures.sets)
    (moves_given gone c.args.file wanted set free (set_as_asked gone c.args.file wanted set c.requires.flock.0 c.set_flock-2.ensures.sets)) (rest_set at.After-settle-2)

pub returns-clause-swept : goal.returns-clause-swept
returns-clause-swept c =
    let gone = (table_state c.set_flock.new.self).files c.args.file in
    let set = (table_state c.set_flock-2.new.self).files c.args.file in
    let back = c.give_back.new.self in
    swept_with_lock c.args.policy (table_state back) c.args.file c.settle-2.new.self
    (λ none. flock_set gone c.args.wanted.owner c.args.wanted.mode set c.set_flock-2.ensures.sets.sets
    (subst (λ (F : FileState). HasNoLock F) (file_from_same set ((table_state back).files c.args.file) (c.give_back.ensures.same.files c.args.file)) none))
    c.settle-2.ensures.settles
