use Rattle.script_core.proofs.Common.{ℕ, ◌≡◌, ◌∷◌, ◌++◌, [], flat_map, ap, sym, ◌∙◌, append_assoc, codes, decimal, tag, step_text, next_step_text}
use Rattle.script_core.proofs.TextLemmas.{then_pushed}
use Rattle.script_core.proofs.ExplainLemmas.{and_then, begun}
use Rattle.script_core.proofs.explain.push_cycle.Goals as goal

pub returns : goal.returns
returns c =
    let event = c.args.entry.now in
    let first = c.args.first.now in
    let front = codes "# " ++ tag event.p event.n ++ codes " " in
    let old = c.args.text.now.items ++ front in
    let waits = codes "would wait for " in
    let process = waits ++ decimal first.process in
    let opened = process ++ codes " (" in
    let step = opened ++ step_text first.step in
    let closed = step ++ codes ")" in
    let nexts = flat_map next_step_text c.args.rest.now in
    let comment = c.in_ok-push_comment.ensures ∙ sym (append_assoc c.args.text.now.items front waits) in
    let number : c.push_first_number.new.text.items ≡ c.push_comment.new.text.items ++ decimal first.process =
    c.in_ok-push_first_number.ensures ∙ ap (λ (n : ℕ). c.push_comment.new.text.items ++ decimal n) c.from.ensures in
    let second = and_then old c.push_comment.new.text.items c.push_first_number.new.text.items waits (decimal first.process) comment number in
    let third = and_then old c.push_first_number.new.text.items c.push_str.new.text.items process (codes " (") second c.in_ok-push_str.ensures in
    let fourth = and_then old c.push_str.new.text.items c.push_step_text.new.text.items opened (step_text first.step) third c.in_ok-push_step_text.ensures in
    let fifth = and_then old c.push_step_text.new.text.items c.push_str-2.new.text.items step (codes ")") fourth c.in_ok-push_str-2.ensures in
    let sixth = and_then old c.push_str-2.new.text.items c.push_next_steps.new.text.items closed nexts fifth c.in_ok-push_next_steps.ensures in
    begun c.push_str-3.result c.args.text.now.items front c.push_str-3.new.text.items (closed ++ nexts ++ 10 ∷ [])
    (then_pushed c.push_str-3.result old c.push_next_steps.new.text.items c.push_str-3.new.text.items (closed ++ nexts) (10 ∷ []) sixth c.push_str-3.ensures)
