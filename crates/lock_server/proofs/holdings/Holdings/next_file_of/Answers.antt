use Rattle.lock_server.proofs.Common.{arith, number_behind}
use Rattle.lock_server.proofs.HolderLemmas.{least_all, least_more, least_none, least_told, none_told, own_unkept}
use Rattle.lock_server.proofs.holdings.Holdings.next_file_of.Goals as goal

pub loop-owner-init : goal.loop-owner-init
loop-owner-init c = least_none c.args.self.now c.args.owners.first _ c.args.above c.before-before.ensures

pub loop-owner-preserved : goal.loop-owner-preserved
loop-owner-preserved c =
    least_more c.args.self.now c.args.owners.first (number_behind c.loop-owner.before) c.in-Some.owner c.args.above c.loop-owner.least c.next_file.result c.lesser-least.result
    c.loop-owner.invariant c.in-Some.ensures.above c.in-Some.ensures.least c.next_file.ensures.above
    (own_unkept c.args.self.now c.in-Some.owner c.args.above c.next_file.result c.next_file.ensures.least c.next_file.ensures.none)
    c.lesser-least.ensures.either c.lesser-least.ensures.least

pub loop-owner-smaller : goal.loop-owner-smaller
loop-owner-smaller c = let from = c.in-Some.ensures.above in omega arith

pub returns-then-owners-owner-clause-above : goal.returns-then-owners-owner-clause-above
returns-then-owners-owner-clause-above c = c.loop-owner.invariant.found

pub returns-then-owners-owner-clause-least : goal.returns-then-owners-owner-clause-least
returns-then-owners-owner-clause-least c =
    let far = c.if-owners-owner.true in
    least_told c.args.self.now c.args.owners.first c.args.owners.last c.args.above c.loop-owner.least
    (least_all c.args.self.now c.args.owners.first c.args.owners.last (number_behind c.loop-owner.before) c.args.above c.loop-owner.least c.loop-owner.invariant
    (λ other file later within. c.in-Some.ensures.least other file later (omega arith)))

pub returns-then-owners-owner-clause-none : goal.returns-then-owners-owner-clause-none
returns-then-owners-owner-clause-none c =
    let far = c.if-owners-owner.true in
    none_told c.args.self.now c.args.owners.first c.args.owners.last c.args.above c.loop-owner.least
    (least_all c.args.self.now c.args.owners.first c.args.owners.last (number_behind c.loop-owner.before) c.args.above c.loop-owner.least c.loop-owner.invariant
    (λ other file later within. c.in-Some.ensures.least other file later (omega arith)))

pub returns-clause-above : goal.returns-clause-above
returns-clause-above c = c.loop-owner.invariant.found

pub returns-clause-least : goal.returns-clause-least
returns-clause-least c =
    least_told c.args.self.now c.args.owners.first c.args.owners.last c.args.above c.loop-owner.least
    (least_all c.args.self.now c.args.owners.first c.args.owners.last (number_behind c.loop-owner.before) c.args.above c.loop-owner.least c.loop-owner.invariant
    (λ other file later within. c.in_default.ensures.none other file later))

pub returns-clause-none : goal.returns-clause-none
returns-clause-none c =
    none_told c.args.self.now c.args.owners.first c.args.owners.last c.args.above c.loop-owner.least
    (least_all c.args.self.now c.args.owners.first c.args.owners.last (number_behind c.loop-owner.before) c.args.above c.loop-owner.least c.loop-owner.invariant
    (λ other file later within. c.in_default.ensures.none other file later))
