use Rattle.script_core.proofs.Common.{refl}
use Rattle.script_core.proofs.JournalSeamLemmas.{entry_taken}
use Rattle.script_core.proofs.journal.JournalReader.check.Goals as goal

pub returns-in-Ok : goal.returns-in-Ok
returns-in-Ok c = λ reading line read before.
    entry_taken c.args.self.now _ reading line c.args.entry read before c.in-Ok.ensures.checks refl refl refl
