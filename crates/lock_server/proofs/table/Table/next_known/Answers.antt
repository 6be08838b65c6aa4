use Rattle.lock_server.proofs.Common.{ℕ, ◌≡◌, ◌<◌, ◌≤◌, ◌∙◌, ap, sym, subst, option_copied, IfNone, IfSome, FileState, file_state, state_at, HasNoLock, number_behind, entry_of, table_state}
use Rattle.lock_server.proofs.table.Table.next_known.Goals as goal

pub returns-clause-least : goal.returns-clause-least
unfolding table_state entry_of
returns-clause-least c =
    let is : state_at (entry_of c.args.self.now c.args.file) ≡ file_state c.in_ok-get.field-0.now = ap state_at (sym c.get.ensures.value ∙ ap option_copied c.in_ok-get.was) in
    subst (λ (F : FileState). IfSome c.next_known.result (λ owner. (other : ℕ) → number_behind c.args.above ≤ other → other < owner → HasNoLock F other)) (sym is)
    c.next_known.ensures.least

pub returns-clause-none : goal.returns-clause-none
unfolding table_state entry_of
returns-clause-none c =
    let is : state_at (entry_of c.args.self.now c.args.file) ≡ file_state c.in_ok-get.field-0.now = ap state_at (sym c.get.ensures.value ∙ ap option_copied c.in_ok-get.was) in
    subst (λ (F : FileState). IfNone c.next_known.result ((owner : ℕ) → number_behind c.args.above ≤ owner → HasNoLock F owner)) (sym is) c.next_known.ensures.none
