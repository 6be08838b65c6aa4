use Rattle.session_core.proofs.Common.{◌≡◌, ◌∙◌, ap, subst, set, ◌-◌, State, Step, StandsFor, rules_of, processes_of, Event, answers_in, latest, last_of}
use Rattle.session_core.proofs.runs.ReplayLemmas.{Makes-told}
use Rattle.session_core.proofs.check.Replay.take.Goals as goal

pub returns-clause-ok : goal.returns-clause-ok
returns-clause-ok c =
    let old = c.args.self.now in
    let inside = c.entry.inside in
    let event = c.args.entry.now in
    let view : Event = record { p = inside.p; n = inside.n; request = inside.request; notes = inside.notes } in
    let same : view ≡ event = c.entry.view_is in
    let notes = c.in_ok-notes.notes.items in
    let place = c.from.result - 1 in
    let at : place ≡ event.p - 1 = ap (λ k. k - 1) (c.from.ensures ∙ ap (λ e. e.p) same) in
    let steps =
    subst
    (λ e. (S : State) → StandsFor old.manager S → (T : State)
    × Step (rules_of old.manager) (processes_of old.manager) S e.p e.n e.request notes T × StandsFor c.take.new.self T)
    same c.in_ok-notes.ensures.step in
    Makes-told old _ event place notes c.requires at (ap (λ e. set old.taken.items place e.n) same) c.take.ensures.rules
    c.take.ensures.processes steps c.tell.ensures.processes
    (λ p low high. c.tell.ensures.latest p low high ∙ ap (λ l. latest (last_of old.answers p) (answers_in p 0 l)) c.deref.ensures.value)
