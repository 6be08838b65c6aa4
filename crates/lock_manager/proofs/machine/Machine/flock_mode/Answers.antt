use Rattle.lock_manager.proofs.Common.{◌∷◌, ◌++◌, [], ◌∙◌, ap}
use Rattle.std.specs.Option.{option_flatten}
use Rattle.lock_manager.proofs.calls.FlockCallLemmas.{flock_tested}
use Rattle.lock_manager.proofs.machine.Machine.flock_mode.Goals as goal

pub returns-in_ok-first_flock-in-None-clause-told : goal.returns-in_ok-first_flock-in-None-clause-told
returns-in_ok-first_flock-in-None-clause-told c =
    let note = c.in_ok-first_flock-in-None.field-0 in
    flock_tested c.args.self.now c.first_flock.new.self c.args.nb c.args.look c.args.wanted note (option_flatten c.flock_place.result)
    c.push_reserved.new.self.items c.flock_place.ensures.mode (ap option_flatten c.in-None.is) c.in_ok-first_flock-in-None.ensures.told
    (c.push_reserved.ensures.items ∙ ap (λ notes. notes ++ note ∷ []) c.requires.empty)

pub returns-in-Some-None-clause-told : goal.returns-in-Some-None-clause-told
returns-in-Some-None-clause-told c =
    let note = c.test_flock.result in
    flock_tested c.args.self.now c.test_flock.new.self c.args.nb c.args.look c.args.wanted note (option_flatten c.flock_place.result)
    c.push_reserved-in-Some-None.new.self.items c.flock_place.ensures.mode (ap option_flatten c.in-Some-None.is ∙ c.in-Some-None.field-0-is) c.test_flock.ensures.told
    (c.push_reserved-in-Some-None.ensures.items ∙ ap (λ notes. notes ++ note ∷ []) c.requires.empty)
