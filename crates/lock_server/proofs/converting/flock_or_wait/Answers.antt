use Rattle.lock_server.proofs.Common.{◌≡◌, ◌∙◌, inr, refl, sym, subst, false, true, FileState, HasAlready, IsHeldBack, IsWaitBlocked, State, table_state}
use Rattle.lock_server.proofs.FlockLemmas.{never_refused, place_from_room, set_as_asked}
use Rattle.lock_server.proofs.ListLemmas.{held_back}
use Rattle.lock_server.proofs.SafeLemmas.{moves_given}
use Rattle.lock_server.proofs.ServerLemmas.{ComesToRest, changes_at_rest, safe_after_join, safe_rested}
use Rattle.lock_server.proofs.StateLemmas.{file_from_same, state_from_same}
use Rattle.lock_server.proofs.SweptLemmas.{HasNoLock, flock_set, swept_with_lock}
use Rattle.lock_server.proofs.converting.flock_or_wait.Goals.{After-settle}
use Rattle.lock_server.proofs.converting.flock_or_wait.Goals as goal

pub returns-then-blocks-clause-safe : goal.returns-then-blocks-clause-safe
returns-then-blocks-clause-safe c safe =
    let table = c.args.table.now in
    let wanted = c.args.wanted in
    safe_after_join c.args.policy table c.join.new.self c.args.file wanted safe c.join.ensures.suspends (c.blocks-2.ensures.0 c.if-blocks.true)
    (never_refused c.args.policy (table_state table) c.args.file wanted c.requires.flock.1)

pub set_flock-requires : goal.set_flock-requires
set_flock-requires c = place_from_room c.args.table.now c.args.file c.args.wanted c.requires.flock.0 c.requires.room

pub give_back-requires : goal.give_back-requires
give_back-requires c = (c.set_flock.ensures.room.requests c.args.wanted c.requires.flock.0 c.requires.flock.1 c.requires.room).ticket

-- the file has come to rest behind the set
rest : (c : After-settle) → ComesToRest c.args.policy (table_state c.set_flock.new.self) c.args.file (table_state c.settle.new.self)
rest c =
    subst (λ (M : State). ComesToRest c.args.policy M c.args.file (table_state c.settle.new.self))
    (state_from_same (table_state c.set_flock.new.self) (table_state c.give_back.new.self) c.give_back.ensures.same)
    (record { settles = c.settle.ensures.settles; settled = c.settle.ensures.settled })

pub returns-clause-safe : goal.returns-clause-safe
returns-clause-safe c safe =
    let at = goal.at.returns-clause-safe c in
    let table = c.args.table.now in
    let wanted = c.args.wanted in
    let S = table_state table in
    let set = c.set_flock.new.self in
    let free : ¬ IsHeldBack (S.files c.args.file) wanted =
    λ held. (let is = c.blocks-2.ensures.1 (held_back c.args.policy (S.files c.args.file) (S.files c.args.file).waits wanted (HasAlready (S.files c.args.file) wanted) held) in
    let isnt = c.if-blocks.false in let h : true ≡ false = sym is ∙ isnt in cc) in
    safe_rested c.args.policy table c.settle.new.self _ (table_state set) c.args.file safe
    (moves_given S c.args.file wanted (table_state set) free (set_as_asked S c.args.file wanted (table_state set) c.requires.flock.0 c.set_flock.ensures.sets)) (rest at.After-settle)

pub returns-clause-comes_to : goal.returns-clause-comes_to
returns-clause-comes_to c =
    let at = goal.at.returns-clause-comes_to c in
    let table = c.args.table.now in
    let wanted = c.args.wanted in
    let S = table_state table in
    let set = c.set_flock.new.self in
    let open_still : ¬ IsWaitBlocked c.args.policy (S.files c.args.file) (S.files c.args.file).waits wanted =
    λ blocked. (let is = c.blocks-2.ensures.1 blocked in let isnt = c.if-blocks.false in let h : true ≡ false = sym is ∙ isnt in cc) in
    let sets = set_as_asked S c.args.file wanted (table_state set) c.requires.flock.0 c.set_flock.ensures.sets in
    inr (open_still, (refl, changes_at_rest c.args.policy S c.args.file wanted.family wanted.owner wanted.span _ (table_state set) (table_state c.settle.new.self) sets (rest at.After-settle)))

pub returns-clause-swept : goal.returns-clause-swept
returns-clause-swept c =
    let set = (table_state c.set_flock.new.self).files c.args.file in
    let back = c.give_back.new.self in
    swept_with_lock c.args.policy (table_state back) c.args.file c.settle.new.self
    (λ none. flock_set ((table_state c.args.table.now).files c.args.file) c.args.wanted.owner c.args.wanted.mode set c.set_flock.ensures.sets.sets
    (subst (λ (F : FileState). HasNoLock F) (file_from_same set ((table_state back).files c.args.file) (c.give_back.ensures.same.files c.args.file)) none))
    c.settle.ensures.settles
