use Rattle.std.proofs.Common.{decimal, ◌∷◌, ◌++◌, ◌∙◌, ap, ℕ, List, []}
use Rattle.history_check.specs.OrderTold.{deed_text}
use Rattle.history_check.proofs.TextLemmas.{four_told}
use Rattle.history_check.proofs.order_text.push_happening.Goals as goal

pub returns : goal.returns
returns c =
    let said = c.in_ok-push_str.ensures ∙ ap (λ (l : List ℕ). c.push_number.new.text.items ++ l) c.deed_words.ensures in
    four_told c.push_str-2.result c.args.text.now.items c.push_number.new.text.items c.push_str.new.text.items c.push_number-2.new.text.items
    c.push_str-2.new.text.items (decimal c.args.happening.request.id) (deed_text c.args.happening.deed) (decimal c.args.happening.behind) (10 ∷ [])
    c.in_ok-push_number.ensures said c.in_ok-push_number-2.ensures c.push_str-2.ensures
