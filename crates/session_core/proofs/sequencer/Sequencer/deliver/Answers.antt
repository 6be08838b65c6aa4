use Rattle.session_core.proofs.Common.{rules, ◌≡◌, ◌∙◌, ap, [], ◌∷◌, ◌++◌, Live, state_at, manager_in, HasNoMail}
use Rattle.session_core.proofs.runs.SequencerLemmas.{Delivers-arrived, Delivers-passed, RunsOn-delivered, delivers_anyhow}
use Rattle.session_core.proofs.sequencer.Sequencer.deliver.Goals as goal

pub returns-in_err-drain-clause-err : goal.returns-in_err-drain-clause-err
returns-in_err-drain-clause-err c =
    let live : state_at (manager_in c.args.self.now) c.args.p ≡ Live = search rules in
    let none : HasNoMail c.args.self.now = search rules in
    delivers_anyhow c.from_residual-in_err-drain.result c.args.self.now c.drain.new.self c.args.p c.args.request c.args.told.now.items c.drain.new.told.items
    (Delivers-passed c.args.self.now c.take_at_once.new.self c.drain.new.self c.args.p c.args.request c.in_ok-entry.entry c.args.told.now.items _ _ live none
    c.in_ok-entry.ensures.taken (c.push_reserved.ensures.items ∙ ap (λ l. l ++ c.in_ok-entry.entry ∷ []) c.reserve.ensures.items) c.drain.ensures.told)

pub returns-then-is_none-clause-delivered : goal.returns-then-is_none-clause-delivered
returns-then-is_none-clause-delivered c =
    let live : state_at (manager_in c.args.self.now) c.args.p ≡ Live = search rules in
    let none : HasNoMail c.args.self.now = search rules in
    Delivers-passed c.args.self.now c.take_at_once.new.self c.drain.new.self c.args.p c.args.request c.in_ok-entry.entry c.args.told.now.items _ _ live none
    c.in_ok-entry.ensures.taken (c.push_reserved.ensures.items ∙ ap (λ l. l ++ c.in_ok-entry.entry ∷ []) c.reserve.ensures.items) c.drain.ensures.told

pub returns-then-is_none-clause-ok : goal.returns-then-is_none-clause-ok
returns-then-is_none-clause-ok c =
    RunsOn-delivered c.args.self.now c.drain.new.self c.args.p c.args.request c.args.told.now.items c.drain.new.told.items
    (returns-then-is_none-clause-delivered c) c.in_ok-drain.ensures.rest

pub returns-in_err-drain-in-Ok-clause-err : goal.returns-in_err-drain-in-Ok-clause-err
returns-in_err-drain-in-Ok-clause-err c =
    delivers_anyhow c.from_residual-in_err-drain-in-Ok.result c.args.self.now c.drain-in-Ok.new.self c.args.p c.args.request c.args.told.now.items
    c.drain-in-Ok.new.told.items
    (Delivers-arrived c.args.self.now c.arrive.new.self c.drain-in-Ok.new.self c.args.p c.args.request c.args.told.now.items c.drain-in-Ok.new.told.items
    c.arrive.ensures.manager c.in-Ok.ensures.sent c.arrive.ensures.told c.drain-in-Ok.ensures.told)

pub returns-in_ok-drain-in-Ok-clause-ok : goal.returns-in_ok-drain-in-Ok-clause-ok
returns-in_ok-drain-in-Ok-clause-ok c =
    RunsOn-delivered c.args.self.now c.drain-in-Ok.new.self c.args.p c.args.request c.args.told.now.items c.drain-in-Ok.new.told.items
    (Delivers-arrived c.args.self.now c.arrive.new.self c.drain-in-Ok.new.self c.args.p c.args.request c.args.told.now.items c.drain-in-Ok.new.told.items
    c.arrive.ensures.manager c.in-Ok.ensures.sent c.arrive.ensures.told c.drain-in-Ok.ensures.told)
    c.in_ok-drain-in-Ok.ensures.rest

pub returns-in_ok-drain-in-Ok-clause-delivered : goal.returns-in_ok-drain-in-Ok-clause-delivered
returns-in_ok-drain-in-Ok-clause-delivered c =
    Delivers-arrived c.args.self.now c.arrive.new.self c.drain-in-Ok.new.self c.args.p c.args.request c.args.told.now.items c.drain-in-Ok.new.told.items
    c.arrive.ensures.manager c.in-Ok.ensures.sent c.arrive.ensures.told c.drain-in-Ok.ensures.told
