use Rattle.lock_server.proofs.Common.{◌≡◌, ◌∙◌, sym, subst, inl, refl, false, true, [], whole_file, Whole, Pending, flock_request, no_ticket, IsHeldBack, table_state}
use Rattle.lock_server.proofs.FlockLemmas.{released_by_set}
use Rattle.lock_server.proofs.SafeLemmas.{moves_given, moves_unset}
use Rattle.lock_server.proofs.ServerLemmas.{ComesToRest, safe_rested, safe_rested_twice, swept}
use Rattle.lock_server.proofs.SweptLemmas.{flock_set, swept_with_lock}
use Rattle.lock_server.proofs.converting.convert_or_refuse.Goals.{After-give_back_place}
use Rattle.lock_server.proofs.converting.convert_or_refuse.Goals as goal

-- the request is refused, and the file has come to rest without the old lock
rest : (c : After-give_back_place) → ComesToRest c.args.policy (table_state c.set_flock.new.self) c.args.file (table_state c.give_back_place.new.self)
rest c =
    swept c.args.policy (table_state c.set_flock.new.self) c.args.file (table_state c.settle.new.self) (table_state c.give_back_place.new.self)
    (record { settles = c.settle.ensures.settles; settled = c.settle.ensures.settled }) c.give_back_place.ensures.same

pub returns-then-holds_back-clause-comes_to : goal.returns-then-holds_back-clause-comes_to
returns-then-holds_back-clause-comes_to c =
    let at = goal.at.returns-then-holds_back-clause-comes_to c in
    let set = table_state c.set_flock.new.self in
    let held : IsHeldBack (set.files c.args.file) (flock_request no_ticket c.args.owner c.args.mode) =
    subst (λ (w : Pending). IsHeldBack (set.files c.args.file) w) c.flock_request-wanted.ensures (c.holds_back.ensures.0 c.if-holds_back.true) in
    (set, released_by_set (table_state c.args.table.now) c.args.file c.args.owner set c.set_flock.ensures.sets, inl (held, (refl, (rest at.After-give_back_place).settles)))

pub returns-then-holds_back-clause-safe : goal.returns-then-holds_back-clause-safe
returns-then-holds_back-clause-safe c safe =
    let at = goal.at.returns-then-holds_back-clause-safe c in
    let table = c.args.table.now in
    let set = table_state c.set_flock.new.self in
    safe_rested c.args.policy table c.give_back_place.new.self [] set c.args.file safe
    (moves_unset (table_state table) c.args.file Whole c.args.owner whole_file set c.set_flock.ensures.sets) (rest at.After-give_back_place)

pub set_flock-requires-2 : goal.set_flock-requires-2
set_flock-requires-2 c = c.set_flock.ensures.room.places c.args.owner c.requires

pub returns-clause-safe : goal.returns-clause-safe
returns-clause-safe c safe =
    let table = c.args.table.now in
    let wanted = flock_request no_ticket c.args.owner c.args.mode in
    let gone = c.set_flock.new.self in
    let set = c.set_flock-2.new.self in
    let free : ¬ IsHeldBack ((table_state gone).files c.args.file) wanted =
    λ held. (let is = c.holds_back.ensures.1 (subst (λ (w : Pending). IsHeldBack ((table_state gone).files c.args.file) w) (sym c.flock_request-wanted.ensures) held) in
    let isnt = c.if-holds_back.false in let h : true ≡ false = sym is ∙ isnt in cc) in
    safe_rested_twice c.args.policy table c.settle-2.new.self [] _ (table_state gone) (table_state set) c.args.file safe
    (moves_unset (table_state table) c.args.file Whole c.args.owner whole_file (table_state gone) c.set_flock.ensures.sets)
    (moves_given (table_state gone) c.args.file wanted (table_state set) free c.set_flock-2.ensures.sets)
    (record { settles = c.settle-2.ensures.settles; settled = c.settle-2.ensures.settled })

pub returns-clause-swept : goal.returns-clause-swept
returns-clause-swept c =
    let gone = c.set_flock.new.self in
    let set = c.set_flock-2.new.self in
    swept_with_lock c.args.policy (table_state set) c.args.file c.settle-2.new.self
    (flock_set ((table_state gone).files c.args.file) c.args.owner c.args.mode ((table_state set).files c.args.file) c.set_flock-2.ensures.sets.sets)
    c.settle-2.ensures.settles
