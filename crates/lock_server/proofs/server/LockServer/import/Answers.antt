use Rattle.lock_server.proofs.Common.{◌≡◌, ◌∙◌, false, sym, true, ⊥_prop, ∥∥₁_elim, through_at, Always, told_by, rules_of, state_of, through_of, SameState, table_state}
use Rattle.lock_server.proofs.CompleteLemmas.{are_of, made_has, may_be_told, notes_told, ordered, refutes, refutes_wanting, told_of}
use Rattle.lock_server.proofs.server.LockServer.import.Goals as goal

pub invariant_of-server : goal.invariant_of-server
invariant_of-server c = record { safe = c.in_ok-table.ensures.safe; swept = c.in_ok-table.ensures.swept; kept = c.in_ok-holdings.ensures }

pub returns-in_err-parts-clause-invalid : goal.returns-in_err-parts-clause-invalid
returns-in_err-parts-clause-invalid c invalid server export =
    let bytes = c.args.bytes.now in
    refutes _ c.from_residual.result (λ parts. told_by parts ≡ told_of server bytes export) c.from_residual.ensures.1
    (c.in_err-parts.ensures (told_of server bytes export) export.are_words (may_be_told server bytes export) export.is) invalid

pub returns-in_err-check_order-clause-invalid : goal.returns-in_err-check_order-clause-invalid
returns-in_err-check_order-clause-invalid c invalid server export =
    let bytes = c.args.bytes.now in
    let told = c.in_ok-parts.ensures (told_of server bytes export) export.are_words (may_be_told server bytes export) export.is in
    refutes _ c.from_residual-in_err-check_order.result Always c.from_residual-in_err-check_order.ensures.1
    (c.in_err-check_order.ensures (ordered server bytes export c.in_ok-parts.parts told)) invalid

pub returns-in_err-table-clause-invalid : goal.returns-in_err-table-clause-invalid
unfolding rules_of state_of
returns-in_err-table-clause-invalid c invalid server export =
    let bytes = c.args.bytes.now in
    let told = c.in_ok-parts.ensures (told_of server bytes export) export.are_words (may_be_told server bytes export) export.is in
    ∥∥₁_elim server.safe ⊥_prop (λ safe.
    refutes _ c.from_residual-in_err-table.result (λ table. SameState (state_of server) (table_state table)) c.from_residual-in_err-table.ensures.1
    (c.in_err-table.ensures.again (state_of server) (are_of server bytes export c.in_ok-parts.parts told safe)) invalid)

pub returns-in_err-openings-clause-invalid : goal.returns-in_err-openings-clause-invalid
returns-in_err-openings-clause-invalid c invalid server export =
    refutes_wanting c.from_residual-in_err-openings.result _ c.from_residual-in_err-openings.ensures.1 invalid

pub returns-in_err-has_export-clause-invalid : goal.returns-in_err-has_export-clause-invalid
returns-in_err-has_export-clause-invalid c invalid server export =
    refutes_wanting c.from_residual-in_err-has_export.result _ c.from_residual-in_err-has_export.ensures.1 invalid

pub returns-clause-invalid : goal.returns-clause-invalid
unfolding rules_of state_of through_of
returns-clause-invalid c invalid server export =
    let bytes = c.args.bytes.now in
    let told = c.in_ok-parts.ensures (told_of server bytes export) export.are_words (may_be_told server bytes export) export.is in
    let parts = c.in_ok-parts.parts in
    let table = c.in_ok-table.table in
    ∥∥₁_elim server.safe ⊥_prop (λ safe.
    let same = c.in_ok-table.ensures.again (state_of server) (are_of server bytes export parts told safe) in
    let notes = c.in_ok-openings.ensures (through_of server) (notes_told server bytes export parts told) in
    let has = c.in_ok-has_export.ensures.1 (made_has server bytes export parts told (table_state table) (through_at c.in_ok-openings.openings) same notes) in
    let h : false ≡ true = sym c.if-branch.false ∙ has in cc)
