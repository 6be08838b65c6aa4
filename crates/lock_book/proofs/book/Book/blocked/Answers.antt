use Rattle.lock_book.proofs.Common.{sym, subst, Holder, HolderConflict, byte_modes_of, list_of, holder_modes}
use Rattle.lock_book.proofs.IndexedLemmas.{conflict_from, conflict_on}
use Rattle.lock_book.proofs.book.Book.blocked.Goals as goal

pub returns-in-Some : goal.returns-in-Some
unfolding byte_modes_of list_of
returns-in-Some c =
    let book = c.args.self.now in
    let modes = byte_modes_of book in
    let told = c.is_blocked.ensures.modes (holder_modes modes) (c.in-Some.ensures.told book.owners book.indexed) in (
      λ yes. conflict_from modes c.args.owner c.args.mode c.args.span
          (subst (λ (h : Holder). HolderConflict (holder_modes modes) h c.args.span c.args.mode) c.holder.ensures (told.0 yes)),
      λ conflict. told.1
          (subst (λ (h : Holder). HolderConflict (holder_modes modes) h c.args.span c.args.mode) (sym c.holder.ensures)
          (conflict_on modes c.args.owner c.args.mode c.args.span conflict)),
    )
