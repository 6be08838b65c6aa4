use Rattle.history_judge.proofs.Common.{◌∙◌, inl, sym}
use Rattle.history_judge.proofs.FilesLemmas.{none_found, not_over, on_ok, some_found}
use Rattle.history_judge.proofs.files.Files.send.Goals as goal

pub returns-then-is_over-clause-limit : goal.returns-then-is_over-clause-limit
returns-then-is_over-clause-limit c told = inl (c.is_over.ensures.0 c.if-is_over.true)

pub returns-then-is_over-clause-err : goal.returns-then-is_over-clause-err
returns-then-is_over-clause-err c runs lines knows = knows

pub send_again-requires-clause-entry : goal.send_again-requires-clause-entry
send_again-requires-clause-entry c = some_found _ (sym c.contains_key.ensures ∙ c.if-contains_key.true)

pub send_again-requires-clause-free : goal.send_again-requires-clause-free
send_again-requires-clause-free c = c.requires

pub send_again-requires-clause-room : goal.send_again-requires-clause-room
send_again-requires-clause-room c = not_over c.args.self.now c.args.limit c.is_over.result c.is_over.ensures c.if-is_over.false

pub send_first-requires-clause-free : goal.send_first-requires-clause-free
send_first-requires-clause-free c = none_found _ (sym c.contains_key.ensures ∙ c.if-contains_key.false)

pub send_first-requires-clause-room : goal.send_first-requires-clause-room
send_first-requires-clause-room c = not_over c.args.self.now c.args.limit c.is_over.result c.is_over.ensures c.if-is_over.false

pub returns-then-contains_key-clause-ok : goal.returns-then-contains_key-clause-ok
returns-then-contains_key-clause-ok c = c.send_again.ensures.ok

pub returns-then-contains_key-clause-room : goal.returns-then-contains_key-clause-room
returns-then-contains_key-clause-room c = on_ok c.send_again.result (not_over c.args.self.now c.args.limit c.is_over.result c.is_over.ensures c.if-is_over.false)

pub returns-then-contains_key-clause-limit : goal.returns-then-contains_key-clause-limit
returns-then-contains_key-clause-limit c = c.send_again.ensures.limit

pub returns-then-contains_key-clause-err : goal.returns-then-contains_key-clause-err
returns-then-contains_key-clause-err c = c.send_again.ensures.err

pub returns-else-contains_key-clause-ok : goal.returns-else-contains_key-clause-ok
returns-else-contains_key-clause-ok c = c.send_first.ensures.ok

pub returns-else-contains_key-clause-room : goal.returns-else-contains_key-clause-room
returns-else-contains_key-clause-room c = on_ok c.send_first.result (not_over c.args.self.now c.args.limit c.is_over.result c.is_over.ensures c.if-is_over.false)

pub returns-else-contains_key-clause-limit : goal.returns-else-contains_key-clause-limit
returns-else-contains_key-clause-limit c = c.send_first.ensures.limit

pub returns-else-contains_key-clause-err : goal.returns-else-contains_key-clause-err
returns-else-contains_key-clause-err c = c.send_first.ensures.err
