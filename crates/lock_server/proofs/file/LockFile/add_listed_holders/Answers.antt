use Rattle.lock_server.proofs.Common.{ℕ, ◌≡◌, ◌∙◌, sym, subst, Some, lookup, deref_pair, iter_end, modes_of, BlocksOn, is_same_owner, file_state}
use Rattle.lock_server.proofs.BlockerLemmas.{hit_blocks, listed_all, listed_push, listed_skip, no_hit}
use Rattle.lock_server.proofs.ExportLemmas.{description_same, list_modes}
use Rattle.lock_server.proofs.WalkLemmas.{next_entry}
use Rattle.lock_server.proofs.file.LockFile.add_listed_holders.Goals as goal
use Rattle.lock_server.proofs.file.LockFile.add_listed_holders.Goals.{else-number-owner-via-then-number-owner+else-is_some, else-number-owner-via-else-number-owner}

pub loop-other-preserved-in_default : goal.loop-other-preserved-in_default
loop-other-preserved-in_default c = (
  tt,
  tt,
  listed_skip (file_state c.args.self.now) c.args.owner c.args.span c.args.mode c.loop-other.yielded (c.in-Some.other, c.in-Some.list)
      c.args.owners.now.items c.loop-other.owners.items c.loop-other.invariant.2 (λ number is blocks. c.in_default.not-Description number is),
)

pub loop-other-preserved-then-is_some : goal.loop-other-preserved-then-is_some
loop-other-preserved-then-is_some c =
    let lists = c.lists-other-items.result in
    let gives = c.into_iter-other-iterator.ensures.into_iter_gives in
    let there = next_entry (λ e. lookup (is_same_owner e.0) lists ≡ Some e.1) lists c.loop-other.yielded _ _ _ _ (c.in-Some.other, c.in-Some.list)
    gives c.loop-other.yielded_by c.in-Some.is c.next.ensures.steps c.lists-other-items.ensures.found in
    let same = list_modes c.args.self.now lists c.in-Some.other.now c.in-Description.number c.in-Some.list.now c.lists-other-items.ensures.modes
    c.in-Description.is there in (
      tt,
      tt,
      listed_push (file_state c.args.self.now) c.args.owner c.args.span c.args.mode c.loop-other.yielded (c.in-Some.other, c.in-Some.list)
          c.args.owners.now.items c.loop-other.owners.items c.push.new.self.items c.in-Description.number c.loop-other.invariant.2 c.in-Description.is
          c.in_ok-push.ensures.items
          (hit_blocks (file_state c.args.self.now) c.args.owner c.args.span c.args.mode c.in-Description.number (modes_of c.in-Some.list.now) c.first_hit.result
          (sym c.is_some.ensures ∙ c.if-is_some.true) c.first_hit.ensures.hit same c.if-number-owner.true),
    )

pub loop-other-preserved : goal.loop-other-preserved
loop-other-preserved c =
    let F = file_state c.args.self.now in
    let lists = c.lists-other-items.result in
    let gives = c.into_iter-other-iterator.ensures.into_iter_gives in
    let there = next_entry (λ e. lookup (is_same_owner e.0) lists ≡ Some e.1) lists c.loop-other.yielded _ _ _ _ (c.in-Some.other, c.in-Some.list)
    gives c.loop-other.yielded_by c.in-Some.is c.next.ensures.steps c.lists-other-items.ensures.found in
    let same = list_modes c.args.self.now lists c.in-Some.other.now c.in-Description.number c.in-Some.list.now c.lists-other-items.ensures.modes
    c.in-Description.is there in
    let none : ¬ BlocksOn F c.args.owner c.args.span c.args.mode c.in-Description.number = elim c.else-number-owner.branch [
      | else-number-owner-via-then-number-owner+else-is_some w ↦
          no_hit F c.args.owner c.args.span c.args.mode c.in-Description.number (modes_of c.in-Some.list.now) w.first_hit.result
          (sym w.is_some.ensures ∙ w.if-is_some.false) w.first_hit.ensures.none same
      | else-number-owner-via-else-number-owner w ↦ λ blocks. blocks.another w.if-number-owner.false
    ] in (
      tt,
      tt,
      listed_skip F c.args.owner c.args.span c.args.mode c.loop-other.yielded (c.in-Some.other, c.in-Some.list) c.args.owners.now.items
          c.loop-other.owners.items c.loop-other.invariant.2
          (λ number is blocks.
          none (subst (λ (n : ℕ). BlocksOn F c.args.owner c.args.span c.args.mode n) (description_same number c.in-Description.number (sym is ∙ c.in-Description.is)) blocks)),
    )

pub returns : goal.returns
returns c =
    let lists = c.lists-other-items.result in
    let gives = c.into_iter-other-iterator.ensures.into_iter_gives in
    let whole = (iter_end deref_pair lists c.loop-other.yielded _ _ _ _ gives c.loop-other.yielded_by c.in-None.is c.next.ensures.steps).0 in
    listed_all c.args.self.now c.args.owner c.args.span c.args.mode lists c.loop-other.yielded c.args.owners.now.items c.loop-other.owners.items
    c.lists-other-items.ensures.modes whole c.loop-other.invariant.2
