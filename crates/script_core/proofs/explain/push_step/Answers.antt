use Rattle.script_core.proofs.Common.{◌++◌, List, Option, codes, ap, subst, sym, ◌∙◌, ◌≡◌, Held, State, Step, StandsFor, processes_of, Event, entry_line, Extends, Link, loss_lines, obstacle_line, deadlock_line}
use Rattle.lock_manager.specs.ManagerView.{rules_of}
use Rattle.script_core.specs.Losses.{flock_before, lost_of}
use Rattle.script_core.specs.Explaining.{IsCycleOf}
use Rattle.script_core.proofs.TextLemmas.{kept_behind}
use Rattle.script_core.proofs.ExplainLemmas.{and_then, explains_step, if_done, if_failed}
use Rattle.script_core.proofs.explain.push_step.Goals as goal

pub returns-clause-ok : goal.returns-clause-ok
returns-clause-ok c =
    let old = c.args.manager.now in
    let event = c.args.entry.now in
    let inside = c.entry.inside in
    let view : Event = record { p = inside.p; n = inside.n; request = inside.request; notes = inside.notes } in
    let notes = c.in_ok-take.field-0.items in
    let steps =
    subst
    (λ (e : Event). (S : State) → StandsFor old S → (T : State)
    × Step (rules_of old) (processes_of old) S e.p e.n e.request notes T × StandsFor c.take.new.self T)
    c.entry.view_is c.in_ok-take.ensures.step in
    let before = subst (λ (e : Event). (S : State) → StandsFor old S → c.flock_before-flock.result ≡ flock_before S e.p e.request) c.entry.view_is c.flock_before-flock.ensures in
    if_done c.push_together.result _ _ c.push_together.ensures.ok
    (λ meets. explains_step c.step_has_one_outcome.ensures c.args.rules old c.take.new.self event notes c.in_ok-obstacle.obstacle c.deref.result.now
    c.args.text.now.items c.push_entry.new.text.items c.push_ended.new.text.items c.push_released.new.text.items c.push_lost.new.text.items
    c.push_obstacle.new.text.items c.push_deadlock.new.text.items c.push_together.new.text.items c.requires.rules steps c.in_ok-obstacle.ensures
    (λ T h. subst (λ (l : List Link). IsCycleOf c.args.rules.policy T event l) (sym c.deref.ensures.value) (c.in_ok-links.ensures T h))
    c.take.ensures.rules c.in_ok-push_entry.ensures c.in_ok-push_ended.ensures.ok c.in_ok-push_released.ensures.ok
    (λ S T h now. c.in_ok-push_lost.ensures.ok T now
    ∙ ap (λ (b : Option Held). c.push_released.new.text.items ++ loss_lines event (codes "lost ") (lost_of T b)) (before S h))
    c.in_ok-push_obstacle.ensures c.in_ok-push_deadlock.ensures c.take.ensures.processes meets)

pub returns-clause-err : goal.returns-clause-err
returns-clause-err c =
    let event = c.args.entry.now in
    let old = c.args.text.now.items in
    let ended : Extends old c.push_ended.new.text.items =
    kept_behind old c.push_entry.new.text.items c.push_ended.new.text.items (entry_line event) c.in_ok-push_entry.ensures c.push_ended.ensures.kept in
    let released : Extends old c.push_released.new.text.items =
    kept_behind old c.push_ended.new.text.items c.push_released.new.text.items ended.more ended.is c.push_released.ensures.kept in
    let lost : Extends old c.push_lost.new.text.items =
    kept_behind old c.push_released.new.text.items c.push_lost.new.text.items released.more released.is c.push_lost.ensures.kept in
    let blocked = obstacle_line event c.in_ok-obstacle.obstacle in
    let third = and_then old c.push_lost.new.text.items c.push_obstacle.new.text.items lost.more blocked lost.is c.in_ok-push_obstacle.ensures in
    let refused = deadlock_line event c.deref.result.now in
    let fourth = and_then old c.push_obstacle.new.text.items c.push_deadlock.new.text.items (lost.more ++ blocked) refused third c.in_ok-push_deadlock.ensures in
    if_failed c.push_together.result _
    (kept_behind old c.push_deadlock.new.text.items c.push_together.new.text.items (lost.more ++ blocked ++ refused) fourth c.push_together.ensures.kept)
