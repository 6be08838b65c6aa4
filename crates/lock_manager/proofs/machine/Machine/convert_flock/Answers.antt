use Rattle.lock_manager.proofs.Common.{[], ◌∷◌, ◌++◌, ◌∙◌, ap}
use Rattle.lock_manager.specs.declared.request.Note.TheVariants.{Waits}
use Rattle.lock_manager.proofs.calls.FlockCallLemmas.{converted, first_set}
use Rattle.lock_manager.proofs.machine.Machine.convert_flock.Goals as goal

pub returns-clause-told : goal.returns-clause-told
returns-clause-told c =
    let settled = c.settle.ensures.settles in
    let placed = Waits c.args.wanted.p c.args.wanted.n in
    converted c.args.self.now c.change_flock.new.self c.settle.new.self c.test_flock.new.self c.args.nb c.args.look c.args.wanted c.test_flock.result settled.0 _
    c.change_flock.ensures.same_rules.rules c.settle.ensures.same_rules.rules c.change_flock.ensures.shows settled.2 c.test_flock.ensures.told
    (first_set placed c.test_flock.result settled.0 c.settle.new.notes.items
    (settled.1 ∙ ap (λ notes. notes ++ settled.0) (c.push_reserved.ensures.items ∙ ap (λ notes. notes ++ placed ∷ []) c.requires.empty)))
