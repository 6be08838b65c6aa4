-- The text of the report (this project's choice).
use Rattle.std.specs.Prelude.{◌≡◌, ℕ, zero, suc, ◌+◌, ◌-◌, ◌≤◌, Bool, true, nat_lt, if◌then◌else◌, List, [], ◌∷◌, ◌++◌, length, flat_map, slice_index, codes, decimal}
use Rattle.range_core.specs.declared.Mode.{Mode}
use Rattle.range_core.specs.declared.Mode.TheVariants.{Read, Write}
use Rattle.range_core.specs.declared.Span.{Span}
use Rattle.lock_book.specs.declared.Owner.{Owner}
use Rattle.lock_book.specs.declared.Owner.TheVariants.{Process, Description}
use Rattle.lock_book.specs.declared.Held.{Held}
use Rattle.lock_book.specs.Changes.{mode_in, flock_mode_in}
use Rattle.lock_book.specs.Reports.{IsHeldReport}
use Rattle.wait_core.specs.declared.Family.{Family}
use Rattle.wait_core.specs.declared.Family.TheVariants.{Bytes, Whole}
use Rattle.wait_core.specs.declared.Wait.{Wait}
use Rattle.lock_manager.specs.declared.request.ProcState.{ProcState}
use Rattle.lock_manager.specs.declared.request.ProcState.TheVariants.{Unborn, Live, Waiting, Ended}
use Rattle.lock_manager.specs.State.{State}
use Rattle.lock_manager.specs.ManagerView.{processes_of, state_at}
use Rattle.session_core.specs.declared.sequencer.Sequencer.{Sequencer}
use Rattle.session_core.specs.Event.{Event}
use Rattle.session_core.specs.Mail.{events_of, answers_to}
use Rattle.session_core.specs.SequencerView.{manager_in, HasTold}
use Rattle.script_core.specs.declared.report_text.ProcessLine.{ProcessLine}
use Rattle.script_core.specs.RequestText.{mode_word}
use Rattle.script_core.specs.EntryText.{tag}

-- the owner of a lock
abbrev pub owner_text : Owner → List ℕ
owner_text (Process p) = codes "process " ++ decimal p
owner_text (Description d) = codes "description " ++ decimal d

-- the mode of a flock lock
abbrev pub flock_word : Mode → List ℕ
flock_word Read = codes "sh"
flock_word Write = codes "ex"

-- a byte lock: file, owner, mode, first and last byte
abbrev pub byte_lock_text : ℕ → Owner → Mode → Span → List ℕ
byte_lock_text file owner mode span =
    decimal file ++ codes " " ++ owner_text owner ++ codes " " ++ mode_word mode ++ codes " " ++ decimal span.first ++ codes " " ++ decimal span.last

-- a flock lock: description and mode
abbrev pub flock_text : Owner → Mode → List ℕ
flock_text owner mode = owner_text owner ++ codes " " ++ flock_word mode

-- a lock that is held
abbrev pub held_text : Held → List ℕ
held_text held =
    if held.whole then codes "flock " ++ decimal held.file ++ codes " " ++ flock_text held.owner held.mode
    else codes "lock " ++ byte_lock_text held.file held.owner held.mode held.span

-- the line of a lock that is held
abbrev pub held_line : Held → List ℕ
held_line held = held_text held ++ 10 ∷ []

-- the lock that a wait is for
abbrev pub wanted_text : Family → Wait → List ℕ
wanted_text Bytes wait = byte_lock_text wait.file wait.owner wait.mode wait.span
wanted_text Whole wait = decimal wait.file ++ codes " flock " ++ flock_text wait.owner wait.mode

-- a wait: the request that waits, and the lock that it is for
abbrev pub wait_text : Wait → List ℕ
wait_text wait = codes "wait " ++ tag wait.p wait.n ++ codes " " ++ wanted_text wait.family wait

-- the line of a wait
abbrev pub wait_line : Wait → List ℕ
wait_line wait = wait_text wait ++ 10 ∷ []

-- where a process stands
abbrev pub state_word : ProcState → List ℕ
state_word Unborn = codes "unborn"
state_word Live = codes "live"
state_word Waiting = codes "waiting"
state_word Ended = codes "ended"

-- how many requests a process sent, how many were taken and how many answered
abbrev pub counts_text : ProcessLine → List ℕ
counts_text line =
    codes "sent " ++ decimal line.sent ++ codes " taken " ++ decimal line.taken ++ codes " answered " ++ decimal line.answered

-- a process, with its counts
abbrev pub process_text : ProcessLine → List ℕ
process_text line = codes "proc " ++ decimal line.p ++ codes " " ++ counts_text line ++ codes " " ++ state_word line.state

-- the line of a process
abbrev pub process_line : ProcessLine → List ℕ
process_line line = process_text line ++ 10 ∷ []

-- whether the report has a line for a process that stands so and sent so much: it isn't unborn, or has sent something
abbrev pub is_reported : ProcState → ℕ → Bool
is_reported Unborn sent = nat_lt 0 sent
is_reported Live sent = true
is_reported Waiting sent = true
is_reported Ended sent = true

-- what there is to tell of a process: where it stands, what it sent, and what was taken and answered by these events
abbrev pub line_of : (ℕ → ProcState) → List Event → (ℕ → ℕ) → ℕ → ProcessLine
line_of states events sent p =
    record { p = p; sent = sent p; taken = length (events_of p events); answered = length (answers_to p events); state = states p }

-- the line of a process, where the report has one
abbrev pub reported_line : ProcessLine → List ℕ
reported_line line = if is_reported line.state line.sent then process_line line else []

-- the lines of the processes from this one on, so many of them
unfoldable pub process_lines : (ℕ → ProcState) → List Event → (ℕ → ℕ) → ℕ → ℕ → List ℕ
process_lines states events sent p zero = []
process_lines states events sent p (suc more) = reported_line (line_of states events sent p) ++ process_lines states events sent (p + 1) more

-- the report of a state of so many processes after these events: the locks that are held, the waits in order of arrival, and the
-- processes with the count of what each sent
pub record IsReport (processes : ℕ) (S : State) (events : List Event) (sent : ℕ → ℕ) (text : List ℕ) : Type 0 where
  pub held : List Held
  pub is_held : IsHeldReport (mode_in S.changes) (flock_mode_in S.flock_changes) held
  pub is : text ≡ flat_map held_line held ++ flat_map wait_line S.waits ++ process_lines S.states events sent 1 processes

-- the list has the count of each process, from process 1 on
abbrev pub AreCounts : List ℕ → (ℕ → ℕ) → Type 0
AreCounts counts count = (p : ℕ) → 1 ≤ p → p ≤ length counts → slice_index counts (p - 1) ≡ count p

-- the text is the report of the sequencer in this state, behind this journal, with the counts of the list
abbrev pub IsReportOf : Sequencer → List Event → List ℕ → State → List ℕ → Type 0
IsReportOf sequencer journal counts S text =
    (sent : ℕ → ℕ) → AreCounts counts sent → IsReport (processes_of (manager_in sequencer)) S journal sent text

-- the new text is the old one, and behind it the lines of these locks, of these waits and of the processes, behind
-- whatever journal was told, with the counts of the list
abbrev pub WritesReport : Sequencer → List ℕ → List Held → List Wait → List ℕ → List ℕ → Type 0
WritesReport sequencer counts locks waits old new =
    let manager = manager_in sequencer in
    (journal : List Event) (sent : ℕ → ℕ) → HasTold sequencer journal → AreCounts counts sent
    → new ≡ old ++ (flat_map held_line locks ++ flat_map wait_line waits ++ process_lines (state_at manager) journal sent 1 (processes_of manager))
