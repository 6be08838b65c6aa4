use Rattle.std.proofs.Common.{◌+◌, Ok, Some, refl, subst}
use Rattle.history_text.specs.declared.line.HistoryLine.{HistoryLine}
use Rattle.history_text.specs.declared.line.HistoryLine.TheVariants.{Answered, Sent}
use Rattle.history_text.specs.HistoryReading.{LineGives}
use Rattle.history_check.specs.declared.check.Finding.TheVariants.{Illegal}
use Rattle.history_check.specs.Verdicts.{history_of}
use Rattle.history_check.specs.Checked.{IsNamed, requested_in}
use Rattle.history_check.proofs.CheckLemmas.{known_still, line_refused, line_said}
use Rattle.history_check.proofs.NameLemmas.{said_is_named}
use Rattle.history_check.proofs.check.HistoryCheck.go_on.Goals as goal

pub send-requires : goal.send-requires
send-requires c =
    subst (IsNamed (requested_in c.args.self.now.judge)) c.in-Sent.is
    (said_is_named (requested_in c.args.self.now.judge) c.args.self.now.line.items c.args.said c.requires.says)

pub answer-requires : goal.answer-requires
answer-requires c =
    subst (IsNamed (requested_in c.args.self.now.judge)) c.in-Answered.is
    (said_is_named (requested_in c.args.self.now.judge) c.args.self.now.line.items c.args.said c.requires.says)

pub returns-in_ok-read-in-Skipped-clause-judges : goal.returns-in_ok-read-in-Skipped-clause-judges
returns-in_ok-read-in-Skipped-clause-judges c = λ judging before read.
    let old = c.args.self.now in
    line_said judging old old c.read.new.self before c.args.said (old.before + 1) read c.requires.says refl refl refl refl c.requires.unfound
    (known_still judging.runs old.judge before c.args.said c.in-Skipped.is read.knows) c.in_ok-read-in-Skipped.ensures.ok refl

pub returns-in_ok-read-in-Sent-clause-judges : goal.returns-in_ok-read-in-Sent-clause-judges
returns-in_ok-read-in-Sent-clause-judges c = λ judging before read.
    let old = c.args.self.now in
    line_said judging old (record old { judge = c.send.new.judge }) c.read-in-Sent.new.self before (Sent c.in-Sent.file c.in-Sent.request) (old.before + 1) read
    (subst (λ (s : HistoryLine). LineGives (requested_in old.judge) old.line.items (Ok s)) c.in-Sent.is c.requires.says) refl refl refl
    c.in_ok-send-in-Sent.ensures.keeps c.requires.unfound
    (c.in_ok-send-in-Sent.ensures.ok judging.runs (history_of before) read.knows) c.in_ok-read-in-Sent.ensures.ok refl

pub returns-in_ok-read-in-Answered-clause-judges : goal.returns-in_ok-read-in-Answered-clause-judges
returns-in_ok-read-in-Answered-clause-judges c = λ judging before read.
    let old = c.args.self.now in
    line_said judging old (record old { judge = c.answer.new.judge }) c.read-then-branch.new.self before (Answered c.in-Answered.id c.in-Answered.told)
    (old.before + 1) read
    (subst (λ (s : HistoryLine). LineGives (requested_in old.judge) old.line.items (Ok s)) c.in-Answered.is c.requires.says) refl refl refl
    c.in_ok-answer-in-Answered.ensures.keeps c.requires.unfound
    (c.in_ok-answer-in-Answered.ensures.legal c.if-branch.true judging.runs (history_of before) read.knows) c.in_ok-read-in-Answered.ensures.ok refl

pub returns-else-branch-clause-judges : goal.returns-else-branch-clause-judges
returns-else-branch-clause-judges c = λ judging before read.
    let old = c.args.self.now in
    line_refused judging old (record old { judge = c.answer.new.judge; found = Some (Illegal c.in-Answered.told) }) before c.in-Answered.id c.in-Answered.told read
    (subst (λ (s : HistoryLine). LineGives (requested_in old.judge) old.line.items (Ok s)) c.in-Answered.is c.requires.says)
    (c.in_ok-answer-in-Answered.ensures.illegal c.if-branch.false) refl refl
