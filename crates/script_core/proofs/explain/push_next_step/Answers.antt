use Rattle.script_core.proofs.Common.{ℕ, ◌≡◌, ◌++◌, ap, ◌∙◌, codes, decimal, tag, step_text, next_step_text}
use Rattle.script_core.proofs.TextLemmas.{then_pushed}
use Rattle.script_core.proofs.ExplainLemmas.{and_then}
use Rattle.script_core.proofs.explain.push_next_step.Goals as goal

pub returns : goal.returns
unfolding next_step_text
returns c =
    let old = c.args.text.now.items in
    let link = c.args.link.now in
    let waits = codes ", which waits for " in
    let process = waits ++ decimal link.process in
    let opened = process ++ codes " (" in
    let request = opened ++ tag link.wait.p link.wait.n in
    let comma = request ++ codes ", " in
    let step = comma ++ step_text link.step in
    let number : c.push_first_number.new.text.items ≡ c.push_str.new.text.items ++ decimal link.process =
    c.in_ok-push_first_number.ensures ∙ ap (λ (n : ℕ). c.push_str.new.text.items ++ decimal n) c.from.ensures in
    let second = and_then old c.push_str.new.text.items c.push_first_number.new.text.items waits (decimal link.process) c.in_ok-push_str.ensures number in
    let third = and_then old c.push_first_number.new.text.items c.push_str-2.new.text.items process (codes " (") second c.in_ok-push_str-2.ensures in
    let fourth = and_then old c.push_str-2.new.text.items c.push_request_name.new.text.items opened (tag link.wait.p link.wait.n) third c.in_ok-push_request_name.ensures in
    let fifth = and_then old c.push_request_name.new.text.items c.push_str-3.new.text.items request (codes ", ") fourth c.in_ok-push_str-3.ensures in
    let sixth = and_then old c.push_str-3.new.text.items c.push_step_text.new.text.items comma (step_text link.step) fifth c.in_ok-push_step_text.ensures in
    then_pushed c.push_str-4.result old c.push_step_text.new.text.items c.push_str-4.new.text.items step (codes ")") sixth c.push_str-4.ensures
