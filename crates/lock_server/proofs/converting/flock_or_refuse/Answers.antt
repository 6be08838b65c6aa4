use Rattle.lock_server.proofs.Common.{◌≡◌, ◌∙◌, sym, subst, false, true, Pending, flock_request, no_ticket, IsHeldBack, table_state}
use Rattle.lock_server.proofs.SafeLemmas.{moves_given}
use Rattle.lock_server.proofs.ServerLemmas.{safe_rested}
use Rattle.lock_server.proofs.SweptLemmas.{flock_set, swept_with_lock}
use Rattle.lock_server.proofs.converting.flock_or_refuse.Goals as goal

pub returns-clause-safe : goal.returns-clause-safe
returns-clause-safe c safe =
    let table = c.args.table.now in
    let wanted = flock_request no_ticket c.args.owner c.args.mode in
    let set = c.set_flock.new.self in
    let free : ¬ IsHeldBack ((table_state table).files c.args.file) wanted =
    λ held. (let is = c.holds_back.ensures.1 (subst (λ (w : Pending). IsHeldBack ((table_state table).files c.args.file) w) (sym c.flock_request-wanted.ensures) held) in
    let isnt = c.if-holds_back.false in let h : true ≡ false = sym is ∙ isnt in cc) in
    safe_rested c.args.policy table c.settle.new.self _ (table_state set) c.args.file safe
    (moves_given (table_state table) c.args.file wanted (table_state set) free c.set_flock.ensures.sets)
    (record { settles = c.settle.ensures.settles; settled = c.settle.ensures.settled })

pub returns-clause-swept : goal.returns-clause-swept
returns-clause-swept c =
    let set = c.set_flock.new.self in
    swept_with_lock c.args.policy (table_state set) c.args.file c.settle.new.self
    (flock_set ((table_state c.args.table.now).files c.args.file) c.args.owner c.args.mode ((table_state set).files c.args.file) c.set_flock.ensures.sets.sets)
    c.settle.ensures.settles
