use Rattle.lock_server.proofs.Common.{◌≡◌, arith, refl, true, false, HasByteLock, file_state, number_behind}
use Rattle.lock_server.proofs.HasLockLemmas.{is_one, no_byte_lock, none_first, none_more, none_within}
use Rattle.lock_server.proofs.file.LockFile.has_byte_locks.Goals as goal

pub loop-owner-init : goal.loop-owner-init
loop-owner-init c = none_first (HasByteLock (file_state c.args.self.now)) c.args.owners.first _ c.before-above.ensures

pub returns-then-owners-owner : goal.returns-then-owners-owner
returns-then-owners-owner c =
    let far = c.if-owners-owner.true in (
      λ impossible. absurd (let h : false ≡ true = impossible in cc),
      λ one. absurd (none_within (HasByteLock (file_state c.args.self.now)) c.args.owners.first c.args.owners.last (number_behind c.loop-owner.above) c.loop-owner.invariant
          (λ other later within. no_byte_lock (file_state c.args.self.now) other (λ byte. c.in-Some.ensures.least other byte later (omega arith))) one),
    )

pub returns-then-has_byte_lock : goal.returns-then-has_byte_lock
returns-then-has_byte_lock c =
    let behind = c.loop-owner.invariant.behind in
    let from = c.in-Some.ensures.above in
    (λ found. (c.in-Some.owner, is_one c.args.owners.first c.args.owners.last c.in-Some.owner (omega arith) c.if-owners-owner.false, c.has_byte_lock.ensures.0 c.if-has_byte_lock.true), λ one. refl)

pub loop-owner-preserved : goal.loop-owner-preserved
loop-owner-preserved c =
    none_more (HasByteLock (file_state c.args.self.now)) c.args.owners.first (number_behind c.loop-owner.above) c.in-Some.owner c.loop-owner.invariant c.in-Some.ensures.above
    (λ other later before. no_byte_lock (file_state c.args.self.now) other (λ byte. c.in-Some.ensures.least other byte later before))
    (λ has. let found = c.has_byte_lock.ensures.1 has in let missed = c.if-has_byte_lock.false in cc)

pub loop-owner-smaller : goal.loop-owner-smaller
loop-owner-smaller c = let from = c.in-Some.ensures.above in omega arith

pub returns : goal.returns
returns c = (
  λ impossible. absurd (let h : false ≡ true = impossible in cc),
  λ one. absurd (none_within (HasByteLock (file_state c.args.self.now)) c.args.owners.first c.args.owners.last (number_behind c.loop-owner.above) c.loop-owner.invariant
      (λ other later within. no_byte_lock (file_state c.args.self.now) other (λ byte. c.in_default.ensures.none other byte later)) one),
)
