use Rattle.replay_core.proofs.Common.{◌∙◌, ap, Some, Finding}
use Rattle.replay_core.proofs.JournalSourceLemmas.{told_illegal, told_faulty}
use Rattle.replay_core.proofs.checks.tell_finding.Goals as goal

pub returns-in_ok-illegal_line-in-Illegal : goal.returns-in_ok-illegal_line-in-Illegal
returns-in_ok-illegal_line-in-Illegal c = record {
  told = λ bytes short judged.
      told_illegal c.args.checking.now bytes c.in_ok-illegal_line-in-Illegal.field-0.items
      (c.requires.found ∙ ap (λ (f : Finding). Some f) c.in-Illegal.is) short c.in_ok-illegal_line-in-Illegal.ensures judged;
}

pub returns-in-Faulty : goal.returns-in-Faulty
returns-in-Faulty c = record {
  told = λ bytes short judged.
      told_faulty c.args.checking.now bytes c.in-Faulty.cause (c.requires.found ∙ ap (λ (f : Finding). Some f) c.in-Faulty.is) short judged;
}
