use Rattle.std.proofs.Common.{codes, decimal, ◌∷◌, []}
use Rattle.history_check.proofs.TextLemmas.{four_told}
use Rattle.history_check.proofs.told.push_wait.Goals as goal

pub returns : goal.returns
returns c =
    four_told c.push_str-2.result c.args.text.now.items c.push_number.new.text.items c.push_str.new.text.items c.push_number-2.new.text.items
    c.push_str-2.new.text.items (decimal c.args.wait.id) (codes " waits since ") (decimal c.args.wait.since) (10 ∷ [])
    c.in_ok-push_number.ensures c.in_ok-push_str.ensures c.in_ok-push_number-2.ensures c.push_str-2.ensures
