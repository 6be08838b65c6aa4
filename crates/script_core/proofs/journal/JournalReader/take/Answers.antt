use Rattle.script_core.proofs.Common.{arith, Ok, subst, common_steps, JournalLineGives}
use Rattle.script_core.proofs.JournalStageLemmas.{said_fits}
use Rattle.script_core.proofs.JournalSeamLemmas.{header_taken}
use Rattle.script_core.proofs.journal.JournalReader.take.Goals as goal

pub returns-in-Header : goal.returns-in-Header
returns-in-Header c = grind (arith, common_steps, header_taken, said_fits)

pub returns-in-Entry : goal.returns-in-Entry
returns-in-Entry c = λ reading read gives.
    let line = c.args.line.now in
    rw c.in-Entry.is
    (c.check.ensures reading line read
    (said_fits reading.place line _ (subst (λ said. JournalLineGives reading.place line (Ok said)) c.in-Entry.is gives)))
