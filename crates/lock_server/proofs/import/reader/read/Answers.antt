use Rattle.lock_server.proofs.Common.{ℕ, ◌≡◌, ◌==◌, ◌∙◌, List, [], ap, append-nil, arith, false, length, sym, true, common_steps, told_by}
use Rattle.lock_server.specs.Reading.{told_words}
use Rattle.lock_server.proofs.ReaderLemmas.{fails, whole_words}
use Rattle.lock_server.proofs.import.reader.read.Goals as goal
use Rattle.lock_server.proofs.import.reader.read.Goals.{else-is_empty-via-then-is_empty+else-bytes-eq0, else-is_empty-via-else-is_empty}

pub returns-in_err-parts : goal.returns-in_err-parts
returns-in_err-parts c told fit may is =
    let words = c.deref.ensures.value ∙ c.in_ok-words.ensures (told_words told) fit is ∙ sym (append-nil (told_words told)) in
    fails _ c.from_residual-in_err-parts.result _ (λ parts. told_by parts ≡ told) c.from_residual-in_err-parts.ensures.1
    (c.in_err-parts.ensures told [] may words)

pub returns-then-bytes-eq0 : goal.returns-then-bytes-eq0
returns-then-bytes-eq0 c told fit may is =
    let words = c.deref.ensures.value ∙ c.in_ok-words.ensures (told_words told) fit is ∙ sym (append-nil (told_words told)) in
    (c.in_ok-parts.ensures told [] may words).0

pub returns : goal.returns
returns c told fit may is =
    let words = c.deref.ensures.value ∙ c.in_ok-words.ensures (told_words told) fit is ∙ sym (append-nil (told_words told)) in
    let gone = (c.in_ok-parts.ensures told [] may words).1 in
    let whole = whole_words c.args.bytes.now (told_words told) is in
    absurd (elim c.else-is_empty.branch [
      | else-is_empty-via-then-is_empty+else-bytes-eq0 w ↦ (let differs = w.if-bytes-eq0.false in first_of (omega arith, grind (arith, common_steps)))
      | else-is_empty-via-else-is_empty w ↦ (let h : false ≡ true = sym w.if-is_empty.false ∙ c.is_empty.ensures ∙ ap (λ (l : List ℕ). length l == 0) gone in cc)
    ])
