-- What the mailboxes hold (the words are this project's choice).
use Rattle.std.specs.Prelude.{IsTrue, ◌≡◌, ◌<◌, ◌≤◌, ℕ, zero, suc, Option, Some, None, List, [], ◌++◌, length, slice_get}
use Rattle.wait_core.specs.declared.processes.ProcessSet.{ProcessSet}
use Rattle.wait_core.specs.Processes.{is_member}
use Rattle.lock_manager.specs.declared.request.Request.{Request}
use Rattle.session_core.specs.declared.mailbox.Mailbox.{Mailbox}
use Rattle.session_core.specs.Event.{Event}
use Rattle.session_core.specs.Runs.{events_of}
use Rattle.session_core.specs.Mail.{requests_taken}

-- the mailbox of a process: that of process p stands at place p - 1
abbrev pub mailbox_of : List Mailbox → ℕ → Option Mailbox
mailbox_of mailboxes zero = None
mailbox_of mailboxes (suc place) = slice_get mailboxes place

-- the requests that wait in a mailbox, in order
abbrev pub waiting_in : Option Mailbox → List Request
waiting_in None = []
waiting_in (Some mailbox) = mailbox.waiting.items

-- how many requests were taken out of a mailbox
abbrev pub taken_in : Option Mailbox → ℕ
taken_in None = 0
taken_in (Some mailbox) = mailbox.taken

-- what a process sent that wasn't taken, in order
abbrev pub mail_waiting : List Mailbox → ℕ → List Request
mail_waiting mailboxes p = waiting_in (mailbox_of mailboxes p)

-- what a process sent, in order: what was taken of it stands in the journal, and the rest in its mailbox
abbrev pub mail_sent : List Mailbox → List Event → ℕ → List Request
mail_sent mailboxes journal p = requests_taken p journal ++ mail_waiting mailboxes p

-- how much of what a process sent was taken
abbrev pub mail_taken : List Mailbox → ℕ → ℕ
mail_taken mailboxes p = taken_in (mailbox_of mailboxes p)

-- a request of the process wasn't taken
abbrev pub HasMail : List Mailbox → ℕ → Type 0
HasMail mailboxes p = 0 < length (mail_waiting mailboxes p)

-- the process is in the set, which has a place for 64
abbrev pub IsInside : ProcessSet → ℕ → Type 0
IsInside set p = (p ≤ 64) × IsTrue (is_member set p)

-- each process with a request that wasn't taken is in the set
abbrev pub IsMailInside : ProcessSet → List Mailbox → Type 0
IsMailInside set mailboxes = (p : ℕ) → HasMail mailboxes p → IsInside set p

-- there is some process; each has a mailbox, and of each just so much was taken as the journal has
pub record IsMailKept (processes : ℕ) (mailboxes : List Mailbox) (journal : List Event) : Type 0 where
  pub some : 1 ≤ processes
  pub one_each : length mailboxes ≡ processes
  pub taken : (p : ℕ) → mail_taken mailboxes p ≡ length (events_of p journal)

-- nothing was sent to the mailbox
pub record IsEmptyMailbox (mailbox : Mailbox) : Type 0 where
  pub waiting : mailbox.waiting.items ≡ []
  pub taken : mailbox.taken ≡ 0
