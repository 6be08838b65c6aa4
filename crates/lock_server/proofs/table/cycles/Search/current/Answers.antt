use Rattle.lock_server.proofs.Common.{◌∙◌, arith, sym}
use Rattle.lock_server.proofs.SearchInDepthLemmas.{begun, no_items}
use Rattle.lock_server.proofs.table.cycles.Search.current.Goals as goal

pub returns-clause-some : goal.returns-clause-some
returns-clause-some c =
    let empty = sym c.deref.ensures.value ∙ no_items c.deref.result.now c.in_default.ensures.item.3 in
    begun c.args.self.now (record { untried = c.pop_first.new.self; path = c.push.new.self }) c.in-Some-pop_first.owner empty c.in-Some-pop_first.ensures.updates c.in-Some-pop_first.ensures.member
    c.in-Some-pop_first.ensures.len c.in_ok-push.ensures.items
    (let len = c.in_ok-push.ensures.len in let slice = c.deref.ensures.len in let none = c.in_default.ensures.item.3 in omega (arith, len, slice, none))
