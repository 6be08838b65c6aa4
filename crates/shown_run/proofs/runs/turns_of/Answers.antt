use Rattle.std.proofs.Common.{◌≡◌, ◌∙◌, ◌++◌, ◌∷◌, [], ℕ, List, ap, get_or, sym, take}
use Rattle.std.proofs.lemmas.List.{map-append, take_more}
use Rattle.session_core.specs.Event.{Event}
use Rattle.script_orders.specs.Searching.{processes_of}
use Rattle.script_search.proofs.RunLemmas.{whole_list}
use Rattle.shown_run.proofs.runs.turns_of.Goals as goal

pub loop-entry-preserved : goal.loop-entry-preserved
loop-entry-preserved c =
    let journal = c.args.journal.now in
    let i = c.loop-entry.entry-index in
    let entry : Event = c.entry-item.result in
    let process : c.process_of.result ≡ (get_or journal i entry).p = c.process_of.ensures ∙ ap (λ (e : Event). e.p) c.entry-item.is in
    c.in_ok-push.ensures.items ∙ ap (λ (l : List ℕ). l ++ c.process_of.result ∷ []) c.loop-entry.invariant
    ∙ ap (λ (p : ℕ). processes_of (take i journal) ++ p ∷ []) process
    ∙ sym (ap processes_of (take_more journal i entry c.loop-entry-test.true)
    ∙ map-append (λ (e : Event). e.p) (take i journal) (get_or journal i entry ∷ []))

pub returns : goal.returns
returns c = c.loop-entry.invariant ∙ ap processes_of (whole_list c.args.journal.now c.loop-entry.entry-index c.loop-entry-test.false)
