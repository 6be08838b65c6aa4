use Rattle.lock_server.proofs.Common.{ℕ, ◌≡◌, ◌≤◌, ◌∙◌, ◌++◌, ◌∷◌, [], List, ap, arith, length, refl, subst, sym, from_le_bytes, w64}
use Rattle.lock_server.proofs.ReaderLemmas.{IsWordsTo, words_all, words_more}
use Rattle.lock_server.proofs.import.reader.words_of.Goals as goal

pub loop-word-init : goal.loop-word-init
loop-word-init c = λ words fit is. rw c.new-words.ensures.items (record { more = words; split = refl; left_is = is })

pub loop-word-preserved : goal.loop-word-preserved
loop-word-preserved c = λ words fit is.
    let items = c.loop-word.words.items in
    let word = c.in-Some.word.now in
    let cases = c.in-Some.ensures.cases in
    let long : 8 ≤ length c.loop-word.left.now = (let sizes = cases.2 in omega arith) in
    let grown : c.put.new.items.items ≡ items ++ from_le_bytes w64 word ∷ [] =
    c.in_ok-put.ensures ∙ ap (λ (w : ℕ). items ++ w ∷ []) c.from_le_bytes.ensures in
    subst (λ (l : List ℕ). IsWordsTo l c.in-Some.behind.now words) (sym grown)
    (words_more items c.loop-word.left.now words word c.in-Some.behind.now fit long cases.0 cases.1 (c.loop-word.invariant words fit is))

pub returns : goal.returns
returns c = λ words fit is. words_all c.loop-word.words.items c.loop-word.left.now words c.in_default.ensures.cases (c.loop-word.invariant words fit is)
