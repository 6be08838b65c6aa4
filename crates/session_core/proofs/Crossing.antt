-- A session may cross threads: that of its manager is known, and not searched for.
use denote.Param.Send.{sendable, IsSend, view_send}
use denote.Param.SendFields.{declared_send, variants_send, as_row_send}
use Rattle.std.proofs.Crossing.{crosses, Vec-send}
use Rattle.wait_core.specs.contracts.ProcessSet as set
use Rattle.lock_manager.specs.contracts.Note as note
use Rattle.lock_manager.specs.contracts.Request as request
use Rattle.lock_manager.proofs.Crossing.{manager_send}
use Rattle.session_core.specs.contracts.entry.Entry as entry
use Rattle.session_core.specs.contracts.entry.Notes as notes
use Rattle.session_core.specs.contracts.entry.KeptNotes as kept
use Rattle.session_core.specs.contracts.sequencer.Sequencer as sequencer
use Rattle.session_core.specs.contracts.session.Session as session
use Rattle.session_core.specs.contracts.answers.LastAnswers as answers
use Rattle.session_core.specs.contracts.mailbox.Mailbox as mailbox

set_send : IsSend set.the_row
set_send = search sendable depth 20

mailbox_send : IsSend mailbox.the_row
mailbox_send = search (sendable, crosses) depth 40

answers_send : IsSend answers.the_row
answers_send = search (sendable, crosses) depth 40

note_send : IsSend note.the_row
note_send = search sendable depth 40

kept_send : IsSend kept.the_row
kept_send = search (note_send, Vec-send, variants_send, as_row_send, tt) depth 20

notes_send : IsSend notes.the_row
notes_send = search (kept_send, view_send, declared_send, tt) depth 20

request_send : IsSend request.the_row
request_send = search sendable depth 40

entry_send : IsSend entry.the_row
entry_send = search (notes_send, request_send, declared_send, as_row_send, sendable) depth 20

sequencer_send : IsSend sequencer.the_row
sequencer_send = search (manager_send, mailbox_send, answers_send, set_send, note_send, Vec-send, declared_send, as_row_send, tt) depth 20

pub session_send : IsSend session.the_row
session_send = search (sequencer_send, entry_send, Vec-send, declared_send, as_row_send, tt) depth 20
