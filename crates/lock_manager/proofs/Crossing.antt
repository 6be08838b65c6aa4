-- A manager may cross threads: that of its books is known, and not searched for.
use denote.Param.Send.{sendable, IsSend, plain_send}
use denote.Param.SendFields.{declared_send, as_row_send}
use Rattle.std.proofs.Crossing.{crosses, send, Vec-send}
use Rattle.lock_book.proofs.Crossing.{book_send}
use Rattle.fd_table.specs.contracts.Tables as tables
use Rattle.wait_core.specs.contracts.ProcessSet as set
use Rattle.wait_core.specs.contracts.Policy as order
use Rattle.wait_core.specs.contracts.files.FileSet as files
use Rattle.wait_core.specs.contracts.Wait as wait
use Rattle.wait_core.specs.contracts.pairs.Pairs as pairs
use Rattle.wait_core.specs.contracts.queues.Queues as queues
use Rattle.wait_core.specs.contracts.Waits as waits
use Rattle.lock_manager.specs.contracts.request.ProcState as state
use Rattle.lock_manager.specs.contracts.request.Rules as policy
use Rattle.lock_manager.specs.contracts.manager.Manager as manager
use Rattle.lock_manager.specs.contracts.machine.Machine as machine
use Rattle.lock_manager.specs.contracts.seat.Seat as seat
use Rattle.lock_manager.specs.contracts.sections.Sections as sections

tables_send : IsSend tables.the_row
tables_send = search (sendable, crosses) depth 40

wait_send : IsSend wait.the_row
wait_send = search sendable depth 20

set_send : IsSend set.the_row
set_send = search sendable depth 20

pairs_send : IsSend pairs.the_row
pairs_send = search (Vec-send, set_send, declared_send, as_row_send, tt) depth 20

queues_send : IsSend queues.the_row
queues_send = search (sendable, crosses) depth 40 fits 20000

files_send : IsSend files.the_row
files_send = search (sendable, crosses) depth 40

order_send : IsSend order.the_row
order_send = search sendable depth 20

waits_send : IsSend waits.the_row
waits_send = search (wait_send, set_send, pairs_send, queues_send, files_send, order_send, Vec-send, declared_send, as_row_send, plain_send, tt) depth 20

state_send : IsSend state.the_row
state_send = search sendable depth 20

rules_send : IsSend policy.the_row
rules_send = search sendable depth 20

machine_send : IsSend machine.the_row
machine_send = search (book_send, tables_send, waits_send, state_send, rules_send, Vec-send, declared_send, as_row_send, sendable) depth 20

seat_send : IsSend seat.the_row
seat_send = search sendable depth 20

sections_send : IsSend sections.the_row
sections_send = search (seat_send, Vec-send, declared_send, as_row_send, tt) depth 20

pub manager_send : IsSend manager.the_row
manager_send = search (machine_send, sections_send, send, declared_send, tt) depth 20
