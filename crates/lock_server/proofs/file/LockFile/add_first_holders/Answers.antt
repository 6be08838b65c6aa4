use Rattle.lock_server.proofs.Common.{ℕ, ◌+◌, ◌∙◌, arith, refl, sym, Span, BlocksBefore, BlocksOn, file_state}
use Rattle.lock_server.specs.Locks.{IsInTheWay}
use Rattle.lock_server.proofs.BlockerLemmas.{has_first, holder_added, none_found, none_in_the_way, up_to_end}
use Rattle.lock_server.proofs.GatheredOwnerLemmas.{AddsOwners-as, AddsOwners-same}
use Rattle.lock_server.proofs.file.LockFile.add_first_holders.Goals as goal

pub returns-in_default : goal.returns-in_default
returns-in_default c =
    let F = file_state c.args.self.now in
    AddsOwners-same c.args.owners.now.items (BlocksOn F c.args.owner c.args.span c.args.mode)
    (none_in_the_way F c.args.owner c.args.mode c.args.span c.in_default.ensures.none)

pub returns-then-span-run : goal.returns-then-span-run
returns-then-span-run c =
    let F = file_state c.args.self.now in
    let run : Span = record { first = c.max.result; last = c.min.result } in
    let end : ℕ = c.min.result + 1 in
    let ends = c.if-span-run.true in
    let alone : ¬ IsInTheWay F c.in-Some.lock.owner run c.args.mode =
    none_found c.blocker-2.result _ (sym c.is_some.ensures ∙ c.if-is_some.false) c.blocker-2.ensures.none in
    AddsOwners-as c.args.owners.now.items c.push.new.self.items (BlocksBefore F c.args.owner c.args.span c.args.mode end)
    (BlocksOn F c.args.owner c.args.span c.args.mode) (up_to_end F c.args.owner c.args.mode c.args.span end (omega (arith, ends)))
    (holder_added F c.args.owner c.args.mode c.args.span run c.in-Some.lock c.in-Some.ensures.some c.max.ensures c.min.ensures alone end refl
    c.args.owners.now.items c.push.new.self.items c.in_ok-push.ensures.items)

pub returns : goal.returns
returns c =
    let F = file_state c.args.self.now in
    let run : Span = record { first = c.max.result; last = c.min.result } in
    let found = c.in-Some.ensures.some in
    let has = has_first F c.args.owner c.args.mode c.args.span run c.in-Some.lock found c.max.ensures c.min.ensures in
    let from = found.first.covered.0 in
    let more = c.if-span-run.false in
    let alone : ¬ IsInTheWay F c.in-Some.lock.owner run c.args.mode =
    none_found c.blocker-2.result _ (sym c.is_some.ensures ∙ c.if-is_some.false) c.blocker-2.ensures.none in (
      (let within = has.1 in omega (arith, within, from)),
      omega (arith, more),
      holder_added F c.args.owner c.args.mode c.args.span run c.in-Some.lock found c.max.ensures c.min.ensures alone (c.min.result + 1) refl
          c.args.owners.now.items c.push.new.self.items c.in_ok-push.ensures.items,
    )
