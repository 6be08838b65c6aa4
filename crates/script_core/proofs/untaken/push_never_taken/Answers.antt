use Rattle.script_core.proofs.Common.{ℕ, ◌≡◌, ◌+◌, ◌-◌, ◌∷◌, ◌++◌, [], ap, ◌∙◌, codes, decimal, tag, more_text}
use Rattle.script_core.proofs.TextLemmas.{then_pushed}
use Rattle.script_core.proofs.ExplainLemmas.{and_then}
use Rattle.script_core.proofs.untaken.push_never_taken.Goals as goal

pub returns : goal.returns
returns c =
    let old = c.args.text.now.items in
    let line = c.args.line.now in
    let count = line.sent - line.taken - 1 in
    let tagged = codes "# " ++ tag line.p (line.taken + 1) in
    let more = tagged ++ more_text count in
    let taken = more ++ codes " never taken: process " in
    let process = taken ++ decimal line.p in
    let second = and_then old c.push_tag.new.text.items c.push_more.new.text.items tagged (more_text count) c.in_ok-push_tag.ensures c.in_ok-push_more.ensures in
    let third = and_then old c.push_more.new.text.items c.push_str.new.text.items more (codes " never taken: process ") second c.in_ok-push_str.ensures in
    let number : c.push_first_number.new.text.items ≡ c.push_str.new.text.items ++ decimal line.p =
    c.in_ok-push_first_number.ensures ∙ ap (λ (n : ℕ). c.push_str.new.text.items ++ decimal n) c.from.ensures in
    let fourth = and_then old c.push_str.new.text.items c.push_first_number.new.text.items taken (decimal line.p) third number in
    let fifth = and_then old c.push_first_number.new.text.items c.push_str-2.new.text.items process c.args.reason.now fourth c.in_ok-push_str-2.ensures in
    then_pushed c.push_str-3.result old c.push_str-2.new.text.items c.push_str-3.new.text.items (process ++ c.args.reason.now) (10 ∷ []) fifth c.push_str-3.ensures
