use Rattle.lock_server.proofs.Common.{Meeting}
use Rattle.lock_server.proofs.FreedLemmas.{any_behind, barred_behind, beyond_behind}
use Rattle.lock_server.proofs.freed.Reach.behind.Goals as goal

pub returns-then-bars : goal.returns-then-bars
returns-then-bars c =
    barred_behind c.of-lock.result c.args.self c.args.granted.now c.of-lock.ensures (c.bars.ensures.write c.if-bars.true) (c.bars.ensures.covers c.if-bars.true)

pub returns-then-eq : goal.returns-then-eq
returns-then-eq c = beyond_behind c.of-lock.result c.args.self c.hull.result c.args.granted.now c.of-lock.ensures c.hull.ensures

pub returns : goal.returns
returns c = any_behind (Meeting c.args.self) c.args.granted.now
