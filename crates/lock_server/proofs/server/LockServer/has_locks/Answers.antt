use Rattle.lock_server.proofs.Common.{◌≡◌, arith, refl, ℕ, true, false, HaveLocks, number_behind, state_of}
use Rattle.lock_server.proofs.HasLockLemmas.{is_one, none_first, none_more, none_within}
use Rattle.lock_server.proofs.HolderLemmas.{have_locks_one, nothing_no_lock, one_has_locks}
use Rattle.lock_server.proofs.server.LockServer.has_locks.Goals as goal

pub loop-owner-init : goal.loop-owner-init
loop-owner-init c = none_first (λ (owner : ℕ). HaveLocks (state_of c.args.self.now) owner owner) c.args.first _ c.before-before.ensures

pub returns-then-last-owner : goal.returns-then-last-owner
unfolding state_of
returns-then-last-owner c =
    let S = state_of c.args.self.now in
    let far = c.if-last-owner.true in (
      λ impossible. absurd (let h : false ≡ true = impossible in cc),
      λ have. absurd (none_within (λ (owner : ℕ). HaveLocks S owner owner) c.args.first c.args.last (number_behind c.loop-owner.before) c.loop-owner.invariant
          (λ other later within one. nothing_no_lock (S.files one.file) other
          (c.args.self.now.kept.gone other one.file (c.in-Some.ensures.least other one.file later (omega arith))).nothing one.on_file)
          (have_locks_one S c.args.first c.args.last have)),
    )

pub returns-then-has_lock : goal.returns-then-has_lock
returns-then-has_lock c =
    let behind = c.loop-owner.invariant.behind in
    let from = c.in-Some.ensures.above in (
      λ found. one_has_locks (state_of c.args.self.now) c.args.first c.args.last c.in-Some.owner (is_one c.args.first c.args.last c.in-Some.owner (omega arith) c.if-last-owner.false)
          (c.has_lock.ensures.0 c.if-has_lock.true),
      λ have. refl,
    )

pub loop-owner-preserved : goal.loop-owner-preserved
unfolding state_of
loop-owner-preserved c =
    let S = state_of c.args.self.now in
    none_more (λ (owner : ℕ). HaveLocks S owner owner) c.args.first (number_behind c.loop-owner.before) c.in-Some.owner c.loop-owner.invariant c.in-Some.ensures.above
    (λ other later before one. nothing_no_lock (S.files one.file) other
    (c.args.self.now.kept.gone other one.file (c.in-Some.ensures.least other one.file later before)).nothing one.on_file)
    (λ have. let found = c.has_lock.ensures.1 have in let missed = c.if-has_lock.false in cc)

pub loop-owner-smaller : goal.loop-owner-smaller
loop-owner-smaller c = let from = c.in-Some.ensures.above in omega arith

pub returns : goal.returns
unfolding state_of
returns c =
    let S = state_of c.args.self.now in (
      λ impossible. absurd (let h : false ≡ true = impossible in cc),
      λ have. absurd (none_within (λ (owner : ℕ). HaveLocks S owner owner) c.args.first c.args.last (number_behind c.loop-owner.before) c.loop-owner.invariant
          (λ other later within one. nothing_no_lock (S.files one.file) other
          (c.args.self.now.kept.gone other one.file (c.in_default.ensures.none other one.file later)).nothing one.on_file)
          (have_locks_one S c.args.first c.args.last have)),
    )
