use Rattle.std.proofs.Common.{◌∙◌}
use Rattle.call_table_tests.proofs.EndLemmas.{kept_first, popped_last}
use Rattle.call_table_tests.proofs.tests.table.open_table.Goals as goal

pub returns : goal.returns
returns g c =
    let opened = c.in_ok-hub.ensures in
    let items = c.in_ok-hub.clients.items in
    let rest = c.pop.new.self in
    let some = c.swap_remove-first.ensures.len ∙ rest.ok.0 in
    let first = opened.client_of_hub 0 c.swap_remove-first.result (kept_first items rest.items c.pop.result
    c.swap_remove-first.result _ c.pop.ensures.items some c.swap_remove-first.ensures.value) in
    let last = opened.client_of_hub _ c.expect-last.result (popped_last items rest.items c.pop.result c.expect-last.result
    c.pop.ensures.items c.expect-last.ensures) in
    (first.0, last.0, opened.desk_of_hub)
