use Rattle.lock_server.proofs.Common.{◌≡◌, ◌∙◌, inl, inr, sym, refl, true, false, file_state, number_behind}
use Rattle.lock_server.proofs.BlockerLemmas.{flock_pushed, flock_skipped, flocks_all}
use Rattle.lock_server.proofs.file.LockFile.add_flock_holders.Goals as goal
use Rattle.lock_server.proofs.file.LockFile.add_flock_holders.Goals.{else-lock-owner-via-then-lock-owner+else-conflicts_with, else-lock-owner-via-else-lock-owner}

pub loop-lock-preserved-in_ok-push : goal.loop-lock-preserved-in_ok-push
loop-lock-preserved-in_ok-push c =
    flock_pushed (file_state c.args.self.now) c.args.owner c.args.mode c.args.owners.now.items c.loop-lock.owners.items c.push.new.self.items
    (number_behind c.loop-lock.above) c.loop-lock.invariant c.in-Some.lock c.in-Some.ensures c.if-lock-owner.true
    (c.conflicts_with.ensures.0 c.if-conflicts_with.true) c.in_ok-push.ensures.items

pub loop-lock-preserved : goal.loop-lock-preserved
loop-lock-preserved c =
    flock_skipped (file_state c.args.self.now) c.args.owner c.args.mode c.args.owners.now.items c.loop-lock.owners.items c.loop-lock.owners.items
    (number_behind c.loop-lock.above) c.loop-lock.invariant c.in-Some.lock c.in-Some.ensures refl
    (elim c.else-lock-owner.branch [
      | else-lock-owner-via-then-lock-owner+else-conflicts_with w ↦
          inr (λ conflict. let yes = w.conflicts_with.ensures.1 conflict in let no = w.if-conflicts_with.false in let h : true ≡ false = sym yes ∙ no in cc)
      | else-lock-owner-via-else-lock-owner w ↦ inl w.if-lock-owner.false
    ])

pub returns : goal.returns
returns c =
    flocks_all (file_state c.args.self.now) c.args.owner c.args.mode c.args.owners.now.items c.loop-lock.owners.items (number_behind c.loop-lock.above)
    c.in_default.ensures c.loop-lock.invariant
