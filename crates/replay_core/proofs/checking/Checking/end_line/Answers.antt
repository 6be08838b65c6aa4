use Rattle.replay_core.proofs.Common.{refl, subst, Err}
use Rattle.script_core.specs.declared.journal.JournalFault.{JournalFault}
use Rattle.script_core.specs.JournalView.{Takes}
use Rattle.replay_core.proofs.CheckingLemmas.{line_taken, line_illegal, line_faulty}
use Rattle.replay_core.proofs.checking.Checking.end_line.Goals as goal

pub returns-in-Ok-clause-judges : goal.returns-in-Ok-clause-judges
returns-in-Ok-clause-judges c = λ reading read.
    line_taken c.args.self.now _ reading c.deref.result.now c.deref.ensures.value (c.in-Ok.ensures.takes reading read) c.clear.ensures.items refl c.requires.unfound

pub returns-in-Err-Illegal-clause-judges : goal.returns-in-Err-Illegal-clause-judges
returns-in-Err-Illegal-clause-judges c = λ reading read.
    line_illegal c.args.self.now _ reading c.deref.result.now c.deref.ensures.value
    (subst (λ (f : JournalFault). Takes c.next.new.self reading c.deref.result.now (Err f)) c.in-Err-Illegal.field-0-is (c.in-Err-Illegal.ensures.takes reading read))
    refl refl

pub returns-in-Err-Grammar-clause-judges : goal.returns-in-Err-Grammar-clause-judges
returns-in-Err-Grammar-clause-judges c = λ reading read.
    line_faulty c.args.self.now _ reading c.deref.result.now c.in-Err-Grammar.cause c.deref.ensures.value
    (subst (λ (f : JournalFault). Takes c.next.new.self reading c.deref.result.now (Err f)) c.in-Err-Grammar.field-0-is (c.in-Err-Grammar.ensures.takes reading read))
    refl refl
