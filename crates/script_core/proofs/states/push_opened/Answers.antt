use Rattle.script_core.proofs.Common.{rules, append_assoc, sym, ap, ◌∙◌, ◌≡◌, ◌++◌, ℕ, List, codes, decimal}
use Rattle.script_core.specs.StateText.{access_text}
use Rattle.script_core.proofs.ExplainLemmas.{and_then}
use Rattle.script_core.proofs.TextLemmas.{then_pushed}
use Rattle.script_core.proofs.states.push_opened.Goals as goal

pub returns : goal.returns
returns c =
    let old = c.args.text.now.items in
    let one = c.push_numbered.new.text.items in
    let two = c.push_numbered-2.new.text.items in
    let first = codes " description " ++ decimal c.args.opened.description in
    let file = decimal c.args.opened.file in
    let same : c.from.result ≡ c.args.opened.file = search rules in
    let told : two ≡ old ++ (first ++ codes " file " ++ file) =
    and_then old one two first (codes " file " ++ file) c.in_ok-push_numbered.ensures
    (c.in_ok-push_numbered-2.ensures ∙ ap (λ (n : ℕ). one ++ (codes " file " ++ decimal n)) same)
    ∙ ap (λ (l : List ℕ). old ++ l) (sym (append_assoc first (codes " file ") file)) in
    then_pushed c.push_access.result old two c.push_access.new.text.items (first ++ codes " file " ++ file) (access_text c.args.opened) told
    c.push_access.ensures
