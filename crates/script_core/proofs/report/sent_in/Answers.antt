use Rattle.script_core.proofs.Common.{◌∙◌, ◌<◌, ◌^◌, ap, arith, codes, decimal, take, words_of}
use Rattle.script_core.proofs.ReportReadingLemmas.{process_words}
use Rattle.script_core.proofs.report.sent_in.Goals as goal

pub returns : goal.returns
returns c = λ told own few is.
    let small : told.p < 2 ^ 64 = omega (arith, own) in
    let words = process_words told small few in
    c.fourth_number.ensures (codes "proc") (decimal told.p) (codes "sent") told.sent (take 5 words.0) few
    (c.first_words.ensures ∙ ap (λ text. take 9 (words_of text)) is ∙ ap (take 9) words.1)
