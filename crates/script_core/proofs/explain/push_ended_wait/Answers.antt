use Rattle.script_core.proofs.Common.{◌∷◌, ◌++◌, [], codes, append_assoc, tag}
use Rattle.script_core.proofs.TextLemmas.{then_pushed}
use Rattle.script_core.proofs.ExplainLemmas.{told_behind}
use Rattle.script_core.proofs.explain.push_ended_wait.Goals as goal

pub returns : goal.returns
returns c =
    let wait = c.args.wait.now in
    let words = codes "ended the wait of " in
    let named = tag wait.p wait.n in
    told_behind c.push_str.result c.args.text.now.items c.push_comment.new.text.items c.push_str.new.text.items c.args.entry.now.p c.args.entry.now.n words
    (named ++ 10 ∷ []) (words ++ named ++ 10 ∷ []) c.in_ok-push_comment.ensures (append_assoc words named (10 ∷ []))
    (then_pushed c.push_str.result c.push_comment.new.text.items c.push_request_name.new.text.items c.push_str.new.text.items named (10 ∷ [])
    c.in_ok-push_request_name.ensures c.push_str.ensures)
