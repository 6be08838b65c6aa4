use Rattle.history_judge.proofs.Common.{◌∙◌, ◌-◌, ap, refl}
use Rattle.history_judge.proofs.FilesLemmas.{counted_rewritten, exceeds_entry, sent_stays, sent_takes}
use Rattle.history_judge.proofs.files.Files.send_again.Goals as goal

pub invariant_of-self : goal.invariant_of-self
invariant_of-self c = record {
  counted = counted_rewritten c.args.self.now c.send_on-sent.new.files c.args.file c.kept_beside-elsewhere.result c.send_on-sent.result.1 _ c.send_on-sent.ensures
      c.kept_beside-elsewhere.ensures c.send_on-sent.ensures.step.1;
}

pub returns-clause-ok : goal.returns-clause-ok
returns-clause-ok c =
    sent_takes c.args.self.now _ c.args.file c.room_beside-room.result c.send_on-sent.result.1 c.args.request refl refl c.send_on-sent.result.0 c.send_on-sent.ensures

pub returns-clause-limit : goal.returns-clause-limit
returns-clause-limit c told =
    exceeds_entry c.args.self.now c.args.file c.send_on-sent.ensures.before c.args.limit c.room_beside-room.result c.send_on-sent.ensures.was
    (c.room_beside-room.ensures ∙ ap (λ n. c.args.limit - n) c.kept_beside-elsewhere.ensures) (c.send_on-sent.ensures.step.0.full told)

pub returns-clause-err : goal.returns-clause-err
returns-clause-err c =
    sent_stays c.args.self.now _ c.args.file c.room_beside-room.result c.send_on-sent.result.1 c.args.request refl refl c.send_on-sent.result.0 c.send_on-sent.ensures
