use Rattle.script_core.proofs.Common.{ℕ, ◌≡◌, ◌∷◌, ◌++◌, [], List, ap, ◌∙◌, codes, decimal, append_assoc}
use Rattle.script_core.proofs.TextLemmas.{then_pushed}
use Rattle.script_core.proofs.ExplainLemmas.{and_then, told_behind}
use Rattle.script_core.proofs.explain.push_together_with.Goals as goal

pub returns : goal.returns
returns c =
    let begun = c.push_comment.new.text.items in
    let words = codes "together with " in
    let other = decimal c.args.q in
    let joined = other ++ codes " in " in
    let place = joined ++ decimal c.args.section in
    let first : c.push_first_number.new.text.items ≡ begun ++ other =
    c.in_ok-push_first_number.ensures ∙ ap (λ (n : ℕ). begun ++ decimal n) c.from.ensures in
    let second = and_then begun c.push_first_number.new.text.items c.push_str.new.text.items other (codes " in ") first c.in_ok-push_str.ensures in
    let number : c.push_first_number-2.new.text.items ≡ c.push_str.new.text.items ++ decimal c.args.section =
    c.in_ok-push_first_number-2.ensures ∙ ap (λ (n : ℕ). c.push_str.new.text.items ++ decimal n) c.from-2.ensures in
    let third = and_then begun c.push_str.new.text.items c.push_first_number-2.new.text.items joined (decimal c.args.section) second number in
    let two : words ++ other ++ codes " in " ≡ words ++ joined = append_assoc words other (codes " in ") in
    let three : words ++ other ++ codes " in " ++ decimal c.args.section ≡ words ++ place =
    ap (λ (l : List ℕ). l ++ decimal c.args.section) two ∙ append_assoc words joined (decimal c.args.section) in
    told_behind c.push_str-2.result c.args.text.now.items begun c.push_str-2.new.text.items c.args.entry.now.p c.args.entry.now.n words (place ++ 10 ∷ [])
    (words ++ other ++ codes " in " ++ decimal c.args.section ++ 10 ∷ []) c.in_ok-push_comment.ensures
    (ap (λ (l : List ℕ). l ++ 10 ∷ []) three ∙ append_assoc words place (10 ∷ []))
    (then_pushed c.push_str-2.result begun c.push_first_number-2.new.text.items c.push_str-2.new.text.items place (10 ∷ []) third c.push_str-2.ensures)
