use Rattle.lock_server.proofs.Common.{◌≡◌, Some, ◌∷◌, [], get, deref_pair, nat_cmp, iter_end, file_words, table_state}
use Rattle.lock_server.proofs.ExportLemmas.{IsFilePiece, all_files, entry_held, file_piece}
use Rattle.lock_server.proofs.WalkLemmas.{next_entry, walked_more, walked_none}
use Rattle.lock_server.proofs.WordLemmas.{item_alone}
use Rattle.lock_server.proofs.table.Table.put_files.Goals as goal

pub loop-number-init : goal.loop-number-init
loop-number-init c = (tt, tt, walked_none (IsFilePiece (table_state c.args.self.now)) file_words _ _ c.put-behind.type_inv)

pub loop-number-preserved : goal.loop-number-preserved
loop-number-preserved c =
    let table = c.args.self.now in
    let gives = rw c.by_number-number-items.ensures at c.into_iter-number-iterator.ensures.into_iter_gives in
    let there = next_entry (λ e. get nat_cmp table.files.by_number e.0 ≡ Some e.1) table.files.by_number.entries c.loop-number.yielded _ _ _ _
    (c.in-Some.number, c.in-Some.file) gives.0 c.loop-number.yielded_by c.in-Some.is c.next.ensures.steps gives.6 in
    let put = c.put-behind-in-loop-number.ensures in (
      tt,
      tt,
      walked_more (IsFilePiece (table_state table)) file_words c.loop-number.yielded (c.in-Some.number, c.in-Some.file) _ _ _ _ _ _
          c.loop-number.invariant.2 (put.what ∷ []) (file_piece table c.in-Some.number.now c.in-Some.file.now.value put.what c.requires (entry_held table.files c.in-Some.number.now c.in-Some.file.now there) (rw c.deref.ensures at put.is))
          (item_alone file_words put.what _ _ _ _ put.puts),
    )

pub returns : goal.returns
returns c =
    let gives = rw c.by_number-number-items.ensures at c.into_iter-number-iterator.ensures.into_iter_gives in
    let whole = (iter_end deref_pair c.args.self.now.files.by_number.entries c.loop-number.yielded _ _ _ _ gives.0 c.loop-number.yielded_by c.in-None.is c.next.ensures.steps).0 in
    all_files c.args.self.now c.loop-number.yielded c.len.result _ _ _ _ _ _ (rw c.by_number.ensures at c.len.ensures.len) gives.5 whole c.put-behind.ensures c.loop-number.invariant.2
