use Rattle.script_core.proofs.Common.{None, Some, Ok, Err, refl, ◌∙◌, ap, err_from_is_err_and, words_of}
use Rattle.script_core.proofs.EntryLemmas.{split_pieces}
use Rattle.script_core.proofs.FaultLemmas.{taken_never_memory}
use Rattle.script_core.proofs.entry.read_pieces.Goals as goal

pub returns-in_err-p-clause-refused : goal.returns-in_err-p-clause-refused
returns-in_err-p-clause-refused c =
    let failed = err_from_is_err_and c.from_residual.result c.from_residual.ensures.1 in
    rw (failed.1, failed.2, split_pieces c.args.text.now None c.in_default.ensures.cases) (λ other. (Err _, c.in_err-p.ensures, refl))

pub returns-in_err-p-clause-memory : goal.returns-in_err-p-clause-memory
returns-in_err-p-clause-memory c =
    let failed = err_from_is_err_and c.from_residual.result c.from_residual.ensures.1 in
    rw (failed.1, failed.2) (λ is. absurd (taken_never_memory c.args.limits (words_of c.args.text.now) _ c.in_err-p.ensures is.0 is.1))

pub returns-in_default-clause-read : goal.returns-in_default-clause-read
returns-in_default-clause-read c =
    rw (split_pieces c.args.text.now None c.in_default.ensures.cases) (Ok c.in_ok-p.field-0, c.in_ok-p.ensures, (Ok _, ap Ok (c.of-notes.ensures ∙ c.new.ensures.items), refl))

pub returns-in_err-p-2-clause-refused : goal.returns-in_err-p-2-clause-refused
returns-in_err-p-2-clause-refused c =
    let failed = err_from_is_err_and c.from_residual-in_err-p-2.result c.from_residual-in_err-p-2.ensures.1 in
    rw (failed.1, failed.2, split_pieces c.args.text.now (Some (c.in-Some.first, c.in-Some.behind)) c.in-Some.ensures.cases) (λ other. (Err _, c.in_err-p-2.ensures, refl))

pub returns-in_err-p-2-clause-memory : goal.returns-in_err-p-2-clause-memory
returns-in_err-p-2-clause-memory c =
    let failed = err_from_is_err_and c.from_residual-in_err-p-2.result c.from_residual-in_err-p-2.ensures.1 in
    rw (failed.1, failed.2) (λ is. absurd (taken_never_memory c.args.limits (words_of c.in-Some.first.now) _ c.in_err-p-2.ensures is.0 is.1))

pub returns-in_err-read_notes-clause-refused : goal.returns-in_err-read_notes-clause-refused
returns-in_err-read_notes-clause-refused c =
    let failed = err_from_is_err_and c.from_residual-in_err-read_notes.result c.from_residual-in_err-read_notes.ensures.1 in
    rw (failed.1, failed.2, split_pieces c.args.text.now (Some (c.in-Some.first, c.in-Some.behind)) c.in-Some.ensures.cases)
    (λ other. (Ok c.in_ok-p-2.field-0, c.in_ok-p-2.ensures, (Err _, c.in_err-read_notes.ensures.refused other, refl)))

pub returns-in_err-read_notes-clause-memory : goal.returns-in_err-read_notes-clause-memory
returns-in_err-read_notes-clause-memory c =
    let failed = err_from_is_err_and c.from_residual-in_err-read_notes.result c.from_residual-in_err-read_notes.ensures.1 in
    rw (failed.1, failed.2, split_pieces c.args.text.now (Some (c.in-Some.first, c.in-Some.behind)) c.in-Some.ensures.cases)
    (λ is. (c.in_ok-p-2.field-0, c.in_ok-p-2.ensures, c.in_err-read_notes.ensures.memory is))

pub returns-clause-read : goal.returns-clause-read
returns-clause-read c =
    rw (split_pieces c.args.text.now (Some (c.in-Some.first, c.in-Some.behind)) c.in-Some.ensures.cases, c.of-notes-2.ensures)
    (Ok c.in_ok-p-2.field-0, c.in_ok-p-2.ensures, (Ok _, c.in_ok-read_notes.ensures.read, refl))
