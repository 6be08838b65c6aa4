use Rattle.script_core.proofs.Common.{Ok, subst, sym, err_from_is_err_and, JournalLineGives, TakesSaid}
use Rattle.script_core.specs.JournalView.{place_of}
use Rattle.script_core.proofs.JournalLemmas.{one_meaning}
use Rattle.script_core.proofs.JournalViewLemmas.{grammar_fault, line_given, text_fault, said_taken}
use Rattle.script_core.proofs.journal.JournalReader.next.Goals as goal

pub returns-then-is_some-clause-determined : goal.returns-then-is_some-clause-determined
returns-then-is_some-clause-determined c = λ place. one_meaning place c.args.line.now

pub returns-in_err-text-clause-takes : goal.returns-in_err-text-clause-takes
returns-in_err-text-clause-takes c =
    let failed = err_from_is_err_and c.from_residual.result c.from_residual.ensures.1 in
    rw (failed.1, failed.2)
    (λ reading read. grammar_fault c.args.self.now reading c.args.line.now _ (c.in_err-text.ensures reading.place).1 (c.in_err-text.ensures reading.place).0 read)

pub returns-in_err-text-clause-determined : goal.returns-in_err-text-clause-determined
returns-in_err-text-clause-determined c = λ place. one_meaning place c.args.line.now

pub returns-in_err-said-clause-takes : goal.returns-in_err-said-clause-takes
unfolding place_of
returns-in_err-said-clause-takes c =
    let failed = err_from_is_err_and c.from_residual-in_err-said.result c.from_residual-in_err-said.ensures.1 in
    rw (failed.1, failed.2)
    (λ reading read. let line = c.in_ok-text.ensures reading.place in
    text_fault c.args.self.now reading c.args.line.now _ c.args.self.now.place c.in_ok-text.text.now line.0 line.1 read.place
    c.in_err-said.ensures.refused c.in_err-said.ensures.memory read)

pub returns-in_err-said-clause-determined : goal.returns-in_err-said-clause-determined
returns-in_err-said-clause-determined c = λ place. one_meaning place c.args.line.now

pub returns-clause-takes : goal.returns-clause-takes
unfolding place_of
returns-clause-takes c = λ reading read.
    let line = c.in_ok-text.ensures reading.place in
    let gives = line_given c.args.self.now.place reading.place c.args.line.now c.in_ok-text.text.now (Ok c.in_ok-said.said) line.0 line.1 read.place c.in_ok-said.ensures.read in
    let said = c.in_ok-said.said in
    said_taken c.take.new.self reading c.args.line.now said c.take.result gives
    (subst (λ text. TakesSaid c.take.new.self reading text said c.take.result) line.0
    (c.take.ensures reading read (subst (λ text. JournalLineGives reading.place text (Ok said)) (sym line.0) gives)))

pub returns-clause-determined : goal.returns-clause-determined
returns-clause-determined c = λ place. one_meaning place c.args.line.now
