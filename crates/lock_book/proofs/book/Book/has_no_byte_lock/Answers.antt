use Rattle.lock_book.proofs.Common.{sym, ◌∙◌, eq-eqb, eqb-true, byte_modes_of, list_of}
use Rattle.lock_book.proofs.IndexedLemmas.{no_runs, none_without_runs}
use Rattle.lock_book.proofs.book.Book.has_no_byte_lock.Goals as goal

pub returns-in-Some : goal.returns-in-Some
unfolding byte_modes_of list_of
returns-in-Some c =
    let book = c.args.self.now in
    let modes = byte_modes_of book in
    let runs = c.in-Some.index.now.runs in (
      λ yes. none_without_runs modes runs (c.in-Some.ensures.told book.owners book.indexed) (sym c.len.ensures ∙ eqb-true c.len.result 0 yes),
      λ none. eq-eqb c.len.result 0 (c.len.ensures ∙ no_runs modes runs (c.in-Some.ensures.kept book.owners book.indexed) none),
    )
