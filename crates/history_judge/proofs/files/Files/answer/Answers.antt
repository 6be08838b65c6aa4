use Rattle.history_judge.proofs.Common.{◌∙◌, ◌-◌, ap, inl, refl}
use Rattle.history_judge.proofs.FilesLemmas.{answer_keeps, answer_refuses, answer_stays, answer_takes, counted_rewritten, exceeds_entry, not_over, on_ok}
use Rattle.history_judge.proofs.files.Files.answer.Goals as goal

pub returns-then-is_over-clause-limit : goal.returns-then-is_over-clause-limit
returns-then-is_over-clause-limit c told = inl (c.is_over.ensures.0 c.if-is_over.true)

pub returns-then-is_over-clause-err : goal.returns-then-is_over-clause-err
returns-then-is_over-clause-err c runs lines knows = knows

pub invariant_of-self : goal.invariant_of-self
invariant_of-self c = record {
  counted = counted_rewritten c.args.self.now c.answer_on-answered.new.files c.args.file c.kept_beside-elsewhere.result c.answer_on-answered.result.1 _
      c.answer_on-answered.ensures c.kept_beside-elsewhere.ensures c.answer_on-answered.ensures.step.1;
}

pub returns-clause-legal : goal.returns-clause-legal
returns-clause-legal c =
    answer_takes c.args.self.now _ c.args.file c.args.id c.room_beside-room.result c.answer_on-answered.result.1 c.args.answer refl refl c.answer_on-answered.result.0
    c.answer_on-answered.ensures

pub returns-clause-illegal : goal.returns-clause-illegal
returns-clause-illegal c =
    answer_refuses c.args.self.now c.answer_on-answered.new.files c.args.file c.args.id c.room_beside-room.result c.answer_on-answered.result.1 c.args.answer
    c.answer_on-answered.result.0 c.answer_on-answered.ensures

pub returns-clause-stays : goal.returns-clause-stays
returns-clause-stays c =
    answer_keeps c.args.self.now _ c.args.file c.args.id c.room_beside-room.result c.answer_on-answered.result.1 c.args.answer refl refl c.answer_on-answered.result.0
    c.answer_on-answered.ensures

pub returns-clause-room : goal.returns-clause-room
returns-clause-room c = on_ok c.answer_on-answered.result.0 (not_over c.args.self.now c.args.limit c.is_over.result c.is_over.ensures c.if-is_over.false)

pub returns-clause-limit : goal.returns-clause-limit
returns-clause-limit c told =
    exceeds_entry c.args.self.now c.args.file c.answer_on-answered.ensures.before c.args.limit c.room_beside-room.result c.answer_on-answered.ensures.was
    (c.room_beside-room.ensures ∙ ap (λ n. c.args.limit - n) c.kept_beside-elsewhere.ensures) (c.answer_on-answered.ensures.step.0.full told)

pub returns-clause-err : goal.returns-clause-err
returns-clause-err c =
    answer_stays c.args.self.now _ c.args.file c.args.id c.room_beside-room.result c.answer_on-answered.result.1 c.args.answer refl refl c.answer_on-answered.result.0
    c.answer_on-answered.ensures
