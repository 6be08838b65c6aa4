-- A book may cross threads: that of its index is known, and not searched for.
use denote.Param.Send.{sendable, view_send, IsSend}
use denote.Param.SendFields.{declared_send, variants_send, as_row_send}
use Rattle.std.proofs.Crossing.{Box-send, crosses, send}
use Rattle.std.proofs.MapsCrossing.{BTreeMap-send}
use Rattle.block_map.proofs.Crossing.{map_send}
use Rattle.interval_index.proofs.Crossing.{runs_send}
use Rattle.owner_runs.proofs.Crossing.{owner_runs_send}
use Rattle.lock_book.specs.contracts.book.Book as book
use Rattle.lock_book.specs.contracts.Owner as owner
use Rattle.lock_book.specs.contracts.book.holders.FlockHolders as holders
use Rattle.lock_book.specs.contracts.book.index.OwnersIndex as index
use Rattle.lock_book.specs.contracts.book.lists.Kept as kept
use Rattle.lock_book.specs.contracts.book.lists.OwnedList as owned_list
use Rattle.lock_book.specs.contracts.book.lists.OwnerLists as lists

index_send : IsSend index.the_row
index_send = search (Box-send, sendable, runs_send) depth 20

owner_send : IsSend owner.the_row
owner_send = search sendable depth 20

holders_send : IsSend holders.the_row
holders_send = search (BTreeMap-send, sendable, crosses) depth 20

owned_owner_runs_send : IsSend owned_list.the_row
owned_owner_runs_send = search (owner_send, owner_runs_send, declared_send, tt) depth 20

kept_send : IsSend kept.the_row
kept_send = search (map_send, owner_send, owner_runs_send, owned_owner_runs_send, variants_send, as_row_send, tt) depth 20

lists_send : IsSend lists.the_row
lists_send = search (view_send, declared_send, kept_send, tt) depth 20

pub book_send : IsSend book.the_row
book_send = search (lists_send, index_send, holders_send, send, declared_send, as_row_send, tt) depth 20
