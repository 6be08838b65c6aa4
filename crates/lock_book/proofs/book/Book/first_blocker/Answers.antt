use Rattle.lock_book.proofs.Common.{sym, subst, Option, Holder, HolderConflict, Run, byte_modes_of, list_of, holder_modes}
use Rattle.std.specs.Prelude.{IfSome}
use Rattle.interval_index.specs.Standing.{IsRunThere}
use Rattle.lock_book.proofs.IndexedLemmas.{IfNone-anyhow, conflict_on}
use Rattle.lock_book.proofs.FirstBlockerLemmas.{blocked_at, blocker_met, blocker_told, blocker_told-some}
use Rattle.lock_book.proofs.book.Book.first_blocker.Goals as goal

pub returns-in_err-hit-clause-none : goal.returns-in_err-hit-clause-none
unfolding byte_modes_of list_of
returns-in_err-hit-clause-none c =
    let book = c.args.self.now in
    let modes = byte_modes_of book in
    let none = c.in_err-hit.ensures.none (holder_modes modes) (c.in-Some.ensures.told book.owners book.indexed) in
    IfNone-anyhow c.from_residual.result (λ conflict. none
    (subst (λ (h : Holder). HolderConflict (holder_modes modes) h c.args.span c.args.mode) (sym c.holder.ensures)
    (conflict_on modes c.args.owner c.args.mode c.args.span conflict)))

pub returns-in-Some-run-clause-some : goal.returns-in-Some-run-clause-some
unfolding byte_modes_of list_of
returns-in-Some-run-clause-some c =
    let book = c.args.self.now in
    let modes = byte_modes_of book in
    let hit = c.in_ok-hit.hit in
    let other = c.in-Some-owner_of.other in
    let blocked = blocked_at modes c.args.owner c.args.mode c.args.span hit.byte other c.holder.result hit.holder c.holder.ensures c.in-Some-owner_of.ensures
    (c.in_ok-hit.ensures.first (holder_modes modes) (c.in-Some.ensures.told book.owners book.indexed)) in
    let runs = c.in-Some.index.now.runs in
    let there = subst (λ (o : Option Run). IfSome o (IsRunThere runs hit.holder hit.byte)) c.in-Some-run.is c.in_ok-hit.ensures.run in
    blocker_met modes c.args.owner c.args.mode c.args.span hit.byte other blocked runs (c.in-Some.ensures.kept book.owners book.indexed)
    hit.holder c.in-Some-owner_of.ensures c.in-Some-run.run' there

pub returns-in_default-run-clause-some : goal.returns-in_default-run-clause-some
unfolding byte_modes_of list_of
returns-in_default-run-clause-some c =
    let book = c.args.self.now in
    let modes = byte_modes_of book in
    let hit = c.in_ok-hit.hit in
    let other = c.in-Some-owner_of.other in
    let blocked = blocked_at modes c.args.owner c.args.mode c.args.span hit.byte other c.holder.result hit.holder c.holder.ensures c.in-Some-owner_of.ensures
    (c.in_ok-hit.ensures.first (holder_modes modes) (c.in-Some.ensures.told book.owners book.indexed)) in
    blocker_told modes c.args.owner c.args.mode c.args.span hit.byte other blocked c.blocker_at.result c.blocker_at.ensures.owner c.blocker_at.ensures.run

pub returns-in_default-run-clause-none : goal.returns-in_default-run-clause-none
unfolding byte_modes_of list_of
returns-in_default-run-clause-none c =
    let book = c.args.self.now in
    let modes = byte_modes_of book in
    let hit = c.in_ok-hit.hit in
    let other = c.in-Some-owner_of.other in
    let blocked = blocked_at modes c.args.owner c.args.mode c.args.span hit.byte other c.holder.result hit.holder c.holder.ensures c.in-Some-owner_of.ensures
    (c.in_ok-hit.ensures.first (holder_modes modes) (c.in-Some.ensures.told book.owners book.indexed)) in
    blocker_told-some modes c.args.owner c.args.mode c.args.span hit.byte other blocked _ c.blocker_at.result c.blocker_at.ensures.none
