use Rattle.lock_server.proofs.Common.{ℕ, ◌+◌, ◌∙◌, ap, arith, lock_of, told, file_state, number_behind}
use Rattle.lock_server.proofs.CountLemmas.{counting_all, counting_more, counting_none}
use Rattle.lock_server.proofs.file.LockFile.count_flock_locks.Goals as goal

pub loop-owner-init : goal.loop-owner-init
loop-owner-init c = counting_none c.args.owners.first c.args.owners.last (λ owner. lock_of ((file_state c.args.self.now).flocks owner)) _ c.before-above.ensures

pub returns-then-owners-owner : goal.returns-then-owners-owner
returns-then-owners-owner c =
    let far = c.if-owners-owner.true in
    counting_all c.args.owners.first c.args.owners.last (λ owner. lock_of ((file_state c.args.self.now).flocks owner)) (number_behind c.loop-owner.above) c.loop-owner.count c.loop-owner.invariant
    (λ other later within. ap lock_of (c.in-Some.ensures.least other later (omega arith)))

pub loop-owner-preserved : goal.loop-owner-preserved
loop-owner-preserved c =
    counting_more c.args.owners.first c.args.owners.last (λ owner. lock_of ((file_state c.args.self.now).flocks owner)) (number_behind c.loop-owner.above) c.loop-owner.count c.in-Some.owner
    c.saturating_add-count.result c.loop-owner.invariant c.in-Some.ensures.above c.if-owners-owner.false
    (λ other later before. ap lock_of (c.in-Some.ensures.least other later before))
    (c.saturating_add-count.ensures ∙ ap (λ (n : ℕ). told (c.loop-owner.count + n)) c.flock_locks_of.ensures)

pub loop-owner-smaller : goal.loop-owner-smaller
loop-owner-smaller c = let from = c.in-Some.ensures.above in omega arith

pub returns : goal.returns
returns c =
    counting_all c.args.owners.first c.args.owners.last (λ owner. lock_of ((file_state c.args.self.now).flocks owner)) (number_behind c.loop-owner.above) c.loop-owner.count c.loop-owner.invariant
    (λ other later within. ap lock_of (c.in_default.ensures.none other later))
