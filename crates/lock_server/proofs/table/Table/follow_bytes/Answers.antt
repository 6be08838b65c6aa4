use Rattle.lock_server.proofs.Common.{ℕ, ◌+◌, arith, refl, table_state}
use Rattle.lock_server.proofs.FollowLemmas.{none_from_start, parts_end, parts_more, parts_whole}
use Rattle.lock_server.proofs.table.Table.follow_bytes.Goals as goal

pub loop-part-init : goal.loop-part-init
loop-part-init c = record {
  to = refl;
  from = omega arith;
  any = c.requires.range.0;
  adds = none_from_start c.args.self.now.waiters c.args.target ((table_state c.args.self.now).files c.args.file) c.args.wait.now.owner c.args.wait.now.span
      c.args.wait.now.mode c.args.reached.now.owners.items;
  told = c.requires.told;
}

pub first_left-requires : goal.first_left-requires
first_left-requires c =
    let to = c.loop-part.invariant.to in
    let far = c.requires.range.1 in
    (c.loop-part.invariant.any, omega (arith, to, far))

pub follow_part-requires : goal.follow_part-requires
follow_part-requires c =
    let inv = c.loop-part.invariant in
    let to = inv.to in
    let far = c.requires.range.1 in
    let stop = c.in-Some.ensures.some.to in
    record {
      range = (c.in-Some.ensures.some.any, omega (arith, to, far, stop));
      told = inv.told;
      among = inv.adds.adds.kept c.args.wait.now.owner c.requires.among;
    }

pub returns-then-rest-part : goal.returns-then-rest-part
returns-then-rest-part c =
    let inv = c.loop-part.invariant in
    let wait = c.args.wait.now in
    let end : ℕ = c.in-Some.part.last + 1 in
    let to = inv.to in
    let ends = c.if-rest-part.true in
    parts_whole c.args.self.now c.args.target c.args.file wait.owner wait.span wait.mode end c.args.reached.now c.follow_part.new.reached (omega (arith, to, ends))
    c.in_ok-follow_part.ensures.told
    (parts_more c.args.self.now c.args.target c.args.file wait.owner wait.span c.loop-part.rest wait.mode inv.to inv.from c.args.reached.now
    c.loop-part.reached inv.told inv.adds c.follow_part.new.reached c.in-Some.part end c.in-Some.ensures.some refl c.in_ok-follow_part.ensures)

pub loop-part-preserved : goal.loop-part-preserved
loop-part-preserved c =
    let inv = c.loop-part.invariant in
    let wait = c.args.wait.now in
    let end : ℕ = c.in-Some.part.last + 1 in
    let is = c.in-Some.ensures.some in
    let start = inv.from in
    let from = is.from in
    let any = is.any in
    let more = c.if-rest-part.false in
    record {
      to = inv.to;
      from = omega (arith, start, from, any);
      any = omega (arith, more);
      adds = parts_more c.args.self.now c.args.target c.args.file wait.owner wait.span c.loop-part.rest wait.mode inv.to inv.from c.args.reached.now
          c.loop-part.reached inv.told inv.adds c.follow_part.new.reached c.in-Some.part end is refl c.in_ok-follow_part.ensures;
      told = c.in_ok-follow_part.ensures.told;
    }

pub returns : goal.returns
returns c =
    let inv = c.loop-part.invariant in
    let wait = c.args.wait.now in
    parts_end c.args.self.now c.args.target c.args.file wait.owner wait.span c.loop-part.rest wait.mode inv.to inv.from c.args.reached.now
    c.loop-part.reached inv.told inv.adds c.in_default.ensures.none
