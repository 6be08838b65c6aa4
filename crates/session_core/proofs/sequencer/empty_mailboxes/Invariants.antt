use Rattle.session_core.proofs.Common.{◌≡◌, length, All, IsEmptyMailbox}
use Rattle.session_core.proofs.sequencer.empty_mailboxes.Given as goal

abbrev pub invariant-loop : goal.invariant-loop
invariant-loop l = record { each : length l.mailboxes.items ≡ l.counter; empty : All IsEmptyMailbox l.mailboxes.items }
