use Rattle.lock_server.proofs.Common.{refl, modes_of}
use Rattle.lock_server.proofs.LookedLemmas.{part_to_end, part_to_hit}
use Rattle.lock_server.proofs.table.looked_at.first_part_lacking.Goals as goal

pub returns-in-Some : goal.returns-in-Some
returns-in-Some c = record {
  some = part_to_hit (modes_of c.args.looked.now) c.args.span c.args.mode c.against.result c.against.ensures c.in_ok-first.first c.in_ok-first.ensures.some
      c.in-Some.byte _ c.in-Some.ensures.hit refl refl;
  none = tt;
}

pub returns-in-None : goal.returns-in-None
returns-in-None c = record {
  some = part_to_end (modes_of c.args.looked.now) c.args.span c.args.mode c.against.result c.against.ensures c.in_ok-first.first c.in_ok-first.ensures.some
      c.in-None.ensures.none;
  none = tt;
}
