use Rattle.lock_server.proofs.Common.{◌≡◌, ◌<◌, ◌∙◌, List, None, Some, ap, get_or, length, subst, sym, FilePart}
use Rattle.lock_server.specs.Ordered.{IsInOrder}
use Rattle.lock_server.proofs.import.parts.Parts.check_order.Goals as goal

pub returns-in-Some : goal.returns-in-Some
returns-in-Some c = λ order.
    let files = c.args.self.now.files.items in
    let part = c.file-item.result in
    let within : c.loop-i.i < length files = subst (λ (l : List FilePart). c.loop-i.i < length l) c.deref-file-items.ensures.value c.loop-i-test.true in
    let is : part ≡ get_or files c.loop-i.i part = c.file-item.is ∙ ap (λ (l : List FilePart). get_or l c.loop-i.i part) c.deref-file-items.ensures.value in
    let h : Some c.in-Some.offset ≡ None = c.in-Some.ensures (subst (λ (p : FilePart). IsInOrder p) (sym is) (order.each c.loop-i.i part within)) in absurd (cc)
