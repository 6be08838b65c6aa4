use Rattle.lock_server.proofs.Common.{arith, refl, file_state}
use Rattle.lock_server.proofs.BlockerLemmas.{holders_more, holders_rest, none_before}
use Rattle.lock_server.proofs.GatheredOwnerLemmas.{AddsOwners-same}
use Rattle.lock_server.proofs.file.LockFile.add_byte_holders.Goals as goal

pub loop-next-init : goal.loop-next-init
loop-next-init c = record {
  to = refl;
  from = omega arith;
  any = c.requires.0;
  adds = AddsOwners-same c.args.owners.now.items _ (none_before (file_state c.args.self.now) c.args.owner c.args.span c.args.mode);
}

pub add_first_holders-requires : goal.add_first_holders-requires
add_first_holders-requires c =
    let to = c.loop-next.invariant.to in
    let far = c.requires.1 in
    (c.loop-next.invariant.any, omega (arith, to, far))

pub loop-next-preserved : goal.loop-next-preserved
loop-next-preserved c =
    let inv = c.loop-next.invariant in
    let from = inv.from in
    let found = rw c.in-Some.is at c.in_ok-next.ensures in
    let further = found.0 in
    record {
      to = inv.to;
      from = omega (arith, from, further);
      any = found.1;
      adds = holders_more (file_state c.args.self.now) c.args.owner c.args.mode c.args.span c.loop-next.rest inv.to inv.from c.args.owners.now.items
          c.loop-next.owners.items c.add_first_holders.new.owners.items inv.adds c.in-Some.next found.0 found.2;
    }

pub returns : goal.returns
returns c =
    let inv = c.loop-next.invariant in
    holders_rest (file_state c.args.self.now) c.args.owner c.args.mode c.args.span c.loop-next.rest inv.to inv.from c.args.owners.now.items
    c.loop-next.owners.items c.add_first_holders.new.owners.items inv.adds inv.any (rw c.in_default.is at c.in_ok-next.ensures)
