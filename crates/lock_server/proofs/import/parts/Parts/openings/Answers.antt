use Rattle.lock_server.proofs.Common.{◌≡◌, ◌≤◌, ◌<◌, ◌∙◌, List, Some, ap, get_or, length, subst, sym, get_or_default, through_at}
use Rattle.lock_server.specs.declared.import.parts.Note.{Note}
use Rattle.lock_server.proofs.NoteLemmas.{taken_all, taken_more, taken_none}
use Rattle.lock_server.proofs.import.parts.Parts.openings.Goals as goal

pub loop-note-init : goal.loop-note-init
loop-note-init c = λ through are. taken_none through c.args.self.now.notes.items (through_at c.new-openings.result) c.new-openings.ensures

pub loop-note-preserved : goal.loop-note-preserved
loop-note-preserved c = λ through are.
    let items = c.deref-note-items.result.now in
    let notes = c.args.self.now.notes.items in
    let place = c.loop-note.note-index in
    let d : Note = record { file = 0; owner = 0; open_file = 0 } in
    let is : items ≡ notes = c.deref-note-items.ensures.value in
    let within : place < length notes = subst (λ (l : List Note). place < length l) is c.loop-note-test.true in
    let says = subst (λ (l : List Note). through (get_or l place d).file (get_or l place d).owner ≡ Some (get_or l place d).open_file) (sym is)
    (are.says place d within) in
    taken_more through (through_at c.loop-note.openings) (through_at c.note.new.self) (get_or items place d) says c.in_ok-note.ensures.ok notes place
    (λ e inside. get_or_default notes place e d inside ∙ ap (λ (l : List Note). get_or l place d) (sym is)) (c.loop-note.invariant through are)

pub returns : goal.returns
returns c = λ through are.
    let notes = c.args.self.now.notes.items in
    let past : length notes ≤ c.loop-note.note-index =
    subst (λ (l : List Note). length l ≤ c.loop-note.note-index) c.deref-note-items.ensures.value c.loop-note-test.false in
    taken_all through notes c.loop-note.note-index c.loop-note.openings are past (c.loop-note.invariant through are)
