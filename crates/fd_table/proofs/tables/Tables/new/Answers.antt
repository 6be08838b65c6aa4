use Rattle.fd_table.proofs.Common.{common_steps, refl, arith, descriptor_limit, view_of}
use Rattle.fd_table.proofs.OpeningLemmas.{AreOpeningRows, opening_keys, opening_born, opening_are_rows, opening_are_entries, opening_size, opening_stands}
use Rattle.fd_table.proofs.tables.Tables.new.Goals as goal

pub invariant_of-result : goal.invariant_of-result
invariant_of-result c = grind (arith, common_steps, opening_are_rows, opening_are_entries, opening_keys, opening_size)

pub returns-clause-opening : goal.returns-clause-opening
unfolding view_of
returns-clause-opening c =
    let made : AreOpeningRows c.in_ok-rows.rows.items c.args.processes c.descriptors.result = record { count = c.in_ok-rows.ensures.count; each = c.in_ok-rows.ensures.rows } in
    let rows : AreOpeningRows c.in_ok-rows.rows.items c.args.processes (descriptor_limit c.args.limits) = rw c.descriptors.ensures at made in
    opening_stands _ c.new.result _ _ refl (opening_keys _ _ _ c.requires.0 rows) (opening_born _ _ c.args.limits c.requires.0 rows)
    (λ file. opening_size _ file c.empty_files.ensures)
