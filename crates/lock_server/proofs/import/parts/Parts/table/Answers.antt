use Rattle.lock_server.proofs.Common.{ℕ, ◌∙◌, List, sym, subst, IsTrue, IsFreeOfCycles, CrossesEach, State, table_state}
use Rattle.lock_server.proofs.ImportLemmas.{safe_built}
use Rattle.lock_server.proofs.JustLemmas.{All-from}
use Rattle.lock_server.proofs.ReaderLemmas.{fails}
use Rattle.lock_server.proofs.RejoinedLemmas.{all_joined, alone_all, alone_opening}
use Rattle.lock_server.proofs.RestoredLemmas.{restored, settled_restored}
use Rattle.lock_server.proofs.StateLemmas.{state_from_same}
use Rattle.lock_server.proofs.SweptLemmas.{all_swept}
use Rattle.lock_server.proofs.import.parts.Parts.table.Goals as goal

pub returns-clause-safe : goal.returns-clause-safe
returns-clause-safe c =
    let table = c.restore_crossed.new.self in
    ∣ safe_built c.args.self.now.rules.policy (table_state c.new-table.result) (table_state c.put_locks.new.table) (table_state c.put_waits.new.table)
    (table_state c.put_grants.new.table) _ _ _ table c.new-table.ensures.opening c.in_ok-put_locks.ensures.sets c.in_ok-put_waits.ensures.joins
    c.in_ok-put_grants.ensures.queues c.in_ok-check_waits.ensures.settled c.restore_crossed.ensures.crosses c.in_ok-check_cycles.ensures.free ∣₁

pub returns-clause-swept : goal.returns-clause-swept
returns-clause-swept c =
    all_swept c.put_grants.new.table c.restore_crossed.new.self c.restore_crossed.ensures.entries
    (all_swept c.put_waits.new.table c.put_grants.new.table c.put_grants.ensures.entries
    (c.put_waits.ensures.swept (c.put_locks.ensures.swept c.new-table.ensures.swept)))

pub returns-clause-again : goal.returns-clause-again
returns-clause-again c = λ S of.
    let parts = c.args.self.now in
    let start = table_state c.new-table.result in
    let locked = table_state c.put_locks.new.table in
    let joined = table_state c.put_waits.new.table in
    let queued = table_state c.put_grants.new.table in
    let T = table_state c.restore_crossed.new.self in
    let crosses = subst (λ (l : List ℕ). CrossesEach queued l T) c.deref.ensures.value c.restore_crossed.ensures.crosses in
    let same = restored S parts of start locked joined queued c.new-table.ensures.opening c.in_ok-put_locks.ensures.sets c.in_ok-put_waits.ensures.joins
    c.in_ok-put_grants.ensures.queues T crosses in
    same

pub returns-in_err-put_locks-clause-again : goal.returns-in_err-put_locks-clause-again
returns-in_err-put_locks-clause-again c = λ S of. fails _ c.from_residual.result _ _ c.from_residual.ensures.1
    (c.in_err-put_locks.ensures.again S of.files of.safe.compatible c.new-table.ensures.opening)

pub returns-in_err-put_waits-clause-again : goal.returns-in_err-put_waits-clause-again
returns-in_err-put_waits-clause-again c = λ S of.
    let parts = c.args.self.now in
    let start = table_state c.new-table.result in
    let locked = table_state c.put_locks.new.table in
    let alone = alone_all start parts.files.items locked c.in_ok-put_locks.ensures.sets (alone_opening start c.new-table.ensures.opening) in
    fails _ c.from_residual-in_err-put_waits.result _ _ c.from_residual-in_err-put_waits.ensures.1 (c.in_err-put_waits.ensures.again S of.files of.safe.once alone)

pub returns-in_err-put_grants-clause-again : goal.returns-in_err-put_grants-clause-again
returns-in_err-put_grants-clause-again c = λ S of.
    let parts = c.args.self.now in
    let start = table_state c.new-table.result in
    let locked = table_state c.put_locks.new.table in
    let joined = table_state c.put_waits.new.table in
    let alone = alone_all start parts.files.items locked c.in_ok-put_locks.ensures.sets (alone_opening start c.new-table.ensures.opening) in
    fails _ c.from_residual-in_err-put_grants.result _ _ c.from_residual-in_err-put_grants.ensures.1 (c.in_err-put_grants.ensures.again S of.grants of.safe.once
    (all_joined S parts.files.items of.files locked alone joined c.in_ok-put_waits.ensures.joins))

pub returns-in_err-check_waits-clause-again : goal.returns-in_err-check_waits-clause-again
returns-in_err-check_waits-clause-again c = λ S of.
    let parts = c.args.self.now in
    let start = table_state c.new-table.result in
    let locked = table_state c.put_locks.new.table in
    let joined = table_state c.put_waits.new.table in
    let queued = table_state c.put_grants.new.table in
    let settled = settled_restored S parts of start locked joined queued c.new-table.ensures.opening c.in_ok-put_locks.ensures.sets
    c.in_ok-put_waits.ensures.joins c.in_ok-put_grants.ensures.queues in
    fails _ c.from_residual-in_err-check_waits.result _ _ c.from_residual-in_err-check_waits.ensures.1 (c.in_err-check_waits.ensures.again settled)

pub returns-in_err-check_cycles-clause-again : goal.returns-in_err-check_cycles-clause-again
returns-in_err-check_cycles-clause-again c = λ S of.
    let parts = c.args.self.now in
    let start = table_state c.new-table.result in
    let locked = table_state c.put_locks.new.table in
    let joined = table_state c.put_waits.new.table in
    let queued = table_state c.put_grants.new.table in
    let T = table_state c.restore_crossed.new.self in
    let crosses = subst (λ (l : List ℕ). CrossesEach queued l T) c.deref.ensures.value c.restore_crossed.ensures.crosses in
    let same = restored S parts of start locked joined queued c.new-table.ensures.opening c.in_ok-put_locks.ensures.sets c.in_ok-put_waits.ensures.joins
    c.in_ok-put_grants.ensures.queues T crosses in
    fails _ c.from_residual-in_err-check_cycles.result _ _ c.from_residual-in_err-check_cycles.ensures.1 (c.in_err-check_cycles.ensures.again
    (subst (λ (U : State). IsFreeOfCycles parts.rules.policy U) (sym (state_from_same S T same)) of.safe.free_of_cycles))

pub returns-in_err-check_crossed-clause-again : goal.returns-in_err-check_crossed-clause-again
returns-in_err-check_crossed-clause-again c = λ S of.
    let parts = c.args.self.now in
    let start = table_state c.new-table.result in
    let locked = table_state c.put_locks.new.table in
    let joined = table_state c.put_waits.new.table in
    let queued = table_state c.put_grants.new.table in
    let T = table_state c.restore_crossed.new.self in
    let crosses = subst (λ (l : List ℕ). CrossesEach queued l T) c.deref.ensures.value c.restore_crossed.ensures.crosses in
    let same = restored S parts of start locked joined queued c.new-table.ensures.opening c.in_ok-put_locks.ensures.sets c.in_ok-put_waits.ensures.joins
    c.in_ok-put_grants.ensures.queues T crosses in
    fails _ c.from_residual-in_err-check_crossed.result _ _ c.from_residual-in_err-check_crossed.ensures.1 (c.in_err-check_crossed.ensures.again
    (All-from (λ owner. IsTrue (T.crossed owner)) parts.crossed.items (λ owner among. same.crossed owner ∙ (of.crossed owner).0 among)))
