-- The lines that explain a run: each begins with `#` and stands behind the line of its event, or at the end (this project's choice).
use Rattle.std.specs.Prelude.{◌≡◌, ℕ, zero, suc, ◌+◌, ◌-◌, ◌==◌, ◌⊎◌, if◌then◌else◌, Bool, true, false, not, IsTrue, Option, Some, None, Ok, List, [], ◌∷◌, ◌++◌, length, filter, flat_map, codes, decimal}
use Rattle.lock_book.specs.declared.Held.{Held}
use Rattle.fd_table.specs.Descriptors.{descriptor_limit}
use Rattle.lock_book.specs.Changes.{mode_in, flock_mode_in}
use Rattle.lock_book.specs.Reports.{IsHeldReport}
use Rattle.wait_core.specs.declared.Policy.{Policy}
use Rattle.wait_core.specs.declared.Wait.{Wait}
use Rattle.wait_core.specs.Blocking.{IsBlocked}
use Rattle.wait_core.specs.Cycles.{IsBlockedByProcess, IsTraditional, WaitsFor}
use Rattle.wait_core.specs.WaitsView.{wait_of}
use Rattle.lock_manager.specs.declared.request.Rules.{Rules}
use Rattle.lock_manager.specs.declared.request.Errno.TheVariants.{EBADF, EINVAL, EOVERFLOW, EAGAIN, EDEADLK, EINTR, EMFILE, ESRCH}
use Rattle.lock_manager.specs.declared.request.Reply.{Reply}
use Rattle.lock_manager.specs.declared.request.Reply.TheVariants as replies
use Rattle.lock_manager.specs.declared.request.Note.{Note}
use Rattle.lock_manager.specs.declared.request.Note.TheVariants.{Answer, Waits}
use Rattle.lock_manager.specs.declared.request.InTheWay.{InTheWay}
use Rattle.lock_manager.specs.declared.request.InTheWay.TheVariants as obstacles
use Rattle.lock_manager.specs.declared.request.Request.{Request}
use Rattle.lock_manager.specs.declared.request.Request.TheVariants.{OpenFile, Dup, DupTo, CloseFd, Seek, Resize, Lk, Flock, Fork, Exit, Signal, Kill, Enter, Leave, Bail}
use Rattle.lock_manager.specs.declared.request.ProcState.{ProcState}
use Rattle.lock_manager.specs.declared.request.ProcState.TheVariants.{Unborn, Live, Waiting, Ended}
use Rattle.lock_manager.specs.declared.request.Visit.{Visit}
use Rattle.lock_manager.specs.State.{State, Visits, locks_held, opening_state}
use Rattle.lock_manager.specs.Sections.{is_together}
use Rattle.lock_manager.specs.Asking.{AsksFor, IsFirstInTheWay}
use Rattle.session_core.specs.Event.{Event}
use Rattle.session_core.specs.Mail.{requests_sent}
use Rattle.session_core.specs.Runs.{IsStep}
use Rattle.session_core.specs.Draining.{IsDrain}
use Rattle.script_core.specs.Words.{lines_of}
use Rattle.script_core.specs.ScriptText.{Meaning}
use Rattle.script_core.specs.Reading.{Reads}
use Rattle.script_core.specs.EntryText.{tag, entry_line}
use Rattle.script_core.specs.declared.report_text.ProcessLine.{ProcessLine}
use Rattle.script_core.specs.ReportText.{held_line, wait_line, line_of, IsReport}
use Rattle.script_core.specs.Output.{IsOutput, processes_in}
use Rattle.script_core.specs.declared.deadlock.Link.{Link}
use Rattle.script_core.specs.declared.states.States.{States}
use Rattle.script_core.specs.StateText.{TellsState}
use Rattle.script_core.specs.Losses.{closed_by, AreReleased, lost}
use Rattle.script_core.specs.Deadlocks.{TellsCycle, TellsCycleIfAny, first_step_text, next_step_text}

-- a line that explains a request: `#`, the request, and what is told of it, which ends the line
abbrev pub comment : ℕ → ℕ → List ℕ → List ℕ
comment p n told = codes "# " ++ tag p n ++ codes " " ++ told

-- what is in the way: a lock that blocks, as the report says it, or an earlier wait that the request stands behind
abbrev pub in_the_way_line : InTheWay → List ℕ
in_the_way_line (obstacles.Lock held) = codes "blocked by " ++ held_line held
in_the_way_line (obstacles.Wait wait) = codes "behind " ++ wait_line wait

-- whether a reply says that a lock was in the way
abbrev pub is_again : Reply → Bool
is_again replies.Ok = false
is_again (replies.Fd fd) = false
is_again replies.Free = false
is_again (replies.Held mode start len pid) = false
is_again (replies.Err EBADF) = false
is_again (replies.Err EINVAL) = false
is_again (replies.Err EOVERFLOW) = false
is_again (replies.Err EAGAIN) = true
is_again (replies.Err EDEADLK) = false
is_again (replies.Err EINTR) = false
is_again (replies.Err EMFILE) = false
is_again (replies.Err ESRCH) = false

-- whether the first of these notes, the caller's, says EAGAIN or that it waits
abbrev pub is_stopped : List Note → Bool
is_stopped [] = false
is_stopped (Answer p n reply ∷ notes) = is_again reply
is_stopped (Waits p n ∷ notes) = true

-- the line of what is in the way, if anything is
abbrev pub obstacle_line : Event → Option InTheWay → List ℕ
obstacle_line event None = []
obstacle_line event (Some obstacle) = comment event.p event.n (in_the_way_line obstacle)

-- the wait that the request of a process ends with the process that waits: that of the one that it kills (POSIX.1-2017 kill, DESCRIPTION,
-- SIGKILL; _Exit, "Consequences of Process Termination")
abbrev pub ended_wait : State → Request → Option Wait
ended_wait S (OpenFile file access) = None
ended_wait S (Dup fd) = None
ended_wait S (DupTo fd to) = None
ended_wait S (CloseFd fd) = None
ended_wait S (Seek fd offset) = None
ended_wait S (Resize fd size) = None
ended_wait S (Lk fd cmd lock) = None
ended_wait S (Flock fd op nb) = None
ended_wait S (Fork child) = None
ended_wait S Exit = None
ended_wait S (Signal target) = None
ended_wait S (Kill target) = wait_of S.waits target
ended_wait S (Enter section visit) = None
ended_wait S (Leave section) = None
ended_wait S Bail = None

-- the line of the wait that ended with its process, if one did
abbrev pub ended_line : Event → Option Wait → List ℕ
ended_line event None = []
ended_line event (Some wait) = comment event.p event.n (codes "ended the wait of " ++ tag wait.p wait.n ++ 10 ∷ [])

-- the line of a lock that is said with this word to have gone with the event
abbrev pub loss_line : Event → List ℕ → Held → List ℕ
loss_line event word held = comment event.p event.n (word ++ held_line held)

-- the lines of these locks, which went with the event
abbrev pub loss_lines : Event → List ℕ → List Held → List ℕ
loss_lines event word locks = flat_map (loss_line event word) locks

-- what is in the way of the event's request, in the state that it left: of one that was refused with EAGAIN or waits, and that asks for a
-- lock which is blocked, the first; else nothing
abbrev pub StandsInTheWay : Rules → State → Event → Option InTheWay → Type 0
StandsInTheWay rules T event None =
    IsTrue (is_stopped event.notes) → (wait : Wait) → AsksFor T event.p event.n event.request wait
    → ¬ IsBlocked rules.policy (locks_held T) T.waits wait
StandsInTheWay rules T event (Some obstacle) =
    IsTrue (is_stopped event.notes)
    × (wait : Wait) × AsksFor T event.p event.n event.request wait × IsFirstInTheWay rules.policy (locks_held T) T.waits wait obstacle

-- whether a reply says that the wait would have closed a cycle
abbrev pub is_edeadlk : Reply → Bool
is_edeadlk replies.Ok = false
is_edeadlk (replies.Fd fd) = false
is_edeadlk replies.Free = false
is_edeadlk (replies.Held mode start len pid) = false
is_edeadlk (replies.Err EBADF) = false
is_edeadlk (replies.Err EINVAL) = false
is_edeadlk (replies.Err EOVERFLOW) = false
is_edeadlk (replies.Err EAGAIN) = false
is_edeadlk (replies.Err EDEADLK) = true
is_edeadlk (replies.Err EINTR) = false
is_edeadlk (replies.Err EMFILE) = false
is_edeadlk (replies.Err ESRCH) = false

-- whether a reply says that the request was done
abbrev pub is_ok_reply : Reply → Bool
is_ok_reply replies.Ok = true
is_ok_reply (replies.Fd fd) = false
is_ok_reply replies.Free = false
is_ok_reply (replies.Held mode start len pid) = false
is_ok_reply (replies.Err error) = false

-- whether the first of these notes, the caller's, says EDEADLK
abbrev pub is_deadlock : List Note → Bool
is_deadlock [] = false
is_deadlock (Answer p n reply ∷ notes) = is_edeadlk reply
is_deadlock (Waits p n ∷ notes) = false

-- the line of the cycle that these steps tell, if there are any
abbrev pub deadlock_line : Event → List Link → List ℕ
deadlock_line event [] = []
deadlock_line event (first ∷ rest) =
    comment event.p event.n (first_step_text first ++ flat_map next_step_text rest ++ 10 ∷ [])

-- the steps of the cycle that the event's request would have closed, in the state that it left, by the report of its locks: of one that
-- was refused with EDEADLK, which is never without; and none of another (POSIX.1-2017 fcntl, ERRORS, EDEADLK)
abbrev pub TellsDeadlock : Policy → State → Event → List Link → Type 0
TellsDeadlock policy T event [] = is_deadlock event.notes ≡ false
TellsDeadlock policy T event (first ∷ rest) =
    IsTrue (is_deadlock event.notes)
    × (report : List Held) × IsHeldReport (mode_in T.changes) (flock_mode_in T.flock_changes) report
    × (wait : Wait) × AsksFor T event.p event.n event.request wait
    × TellsCycle policy report T.waits wait (IsBlockedByProcess policy (locks_held T) T.waits wait) (WaitsFor policy (locks_held T) T.waits) (first ∷ rest)

-- by the report of the locks and the waits of the state, the steps tell the cycle that a traditional lock for which the request asks would
-- have closed
abbrev pub TellsCycleOf : Policy → State → Event → List Link → Type 0
TellsCycleOf policy T event links =
    (report : List Held) × IsHeldReport (mode_in T.changes) (flock_mode_in T.flock_changes) report
    × ((wait : Wait) → AsksFor T event.p event.n event.request wait → IsTraditional wait → TellsCycleIfAny policy report T.waits wait links)

-- so it is where the event's request was refused with EDEADLK, and else there are none
pub record IsCycleOf (policy : Policy) (T : State) (event : Event) (links : List Link) : Type 0 where
  pub none : is_deadlock event.notes ≡ false → links ≡ []
  pub some : is_deadlock event.notes ≡ true → ((wait : Wait) → ¬ AsksFor T event.p event.n event.request wait) ⊎ TellsCycleOf policy T event links

-- whether the first of these notes, the caller's, says Ok
abbrev pub is_done : List Note → Bool
is_done [] = false
is_done (Answer p n reply ∷ notes) = is_ok_reply reply
is_done (Waits p n ∷ notes) = false

-- the line of another process that is in the section
abbrev pub together_line : Event → ℕ → ℕ → List ℕ
together_line event section q = comment event.p event.n (codes "together with " ++ decimal q ++ codes " in " ++ decimal section ++ 10 ∷ [])

-- the lines of the processes from 1 on, so many of them, with which the event's process is in the section by this visit, and is not meant to be
unfoldable pub together_lines : Event → Visits → ℕ → Visit → ℕ → List ℕ
together_lines event visits section visit zero = []
together_lines event visits section visit (suc q) =
    together_lines event visits section visit q
    ++ (if is_together visits event.p section visit (suc q) then together_line event section (suc q) else [])

-- those of an enter by this request, of so many processes
abbrev pub entered_lines : ℕ → Event → Visits → Request → List ℕ
entered_lines processes event visits (Enter section visit) = together_lines event visits section visit processes
entered_lines processes event visits (OpenFile file access) = []
entered_lines processes event visits (Dup fd) = []
entered_lines processes event visits (DupTo fd to) = []
entered_lines processes event visits (CloseFd fd) = []
entered_lines processes event visits (Seek fd offset) = []
entered_lines processes event visits (Resize fd size) = []
entered_lines processes event visits (Lk fd cmd lock) = []
entered_lines processes event visits (Flock fd op nb) = []
entered_lines processes event visits (Fork child) = []
entered_lines processes event visits Exit = []
entered_lines processes event visits (Signal target) = []
entered_lines processes event visits (Kill target) = []
entered_lines processes event visits (Leave section) = []
entered_lines processes event visits Bail = []

-- with whom the event's process is where it isn't meant to be, once it has entered
abbrev pub lines_together : ℕ → Event → State → List ℕ
lines_together processes event T = if is_done event.notes then entered_lines processes event T.visits event.request else []

-- the lines explain the event, from the state S to the state T of so many processes: which wait it ended, which locks it released, which it
-- lost, and then what was in the way, or which cycle the request would have closed, or with whom the process is in the section that it entered
pub record Explains (rules : Rules) (processes : ℕ) (S : State) (event : Event) (T : State) (text : List ℕ) : Type 0 where
  pub released : List Held
  pub are_released : AreReleased processes (descriptor_limit rules.limits) S (closed_by rules.limits S event.p event.request) released
  pub obstacle : Option InTheWay
  pub is_obstacle : StandsInTheWay rules T event obstacle
  pub links : List Link
  pub is_cycle : TellsDeadlock rules.policy T event links
  pub is : text ≡ ended_line event (ended_wait S event.request) ++ loss_lines event (codes "released ") released
      ++ loss_lines event (codes "lost ") (lost S T event.p event.request) ++ obstacle_line event obstacle ++ deadlock_line event links
      ++ lines_together processes event T

-- the text is the line of each of these events, which have the numbers from this one on, with the lines that explain it behind it, and what
-- is asked for of the state that it left; they lead from the state S to the state T
abbrev pub ExplainsRun : States → Rules → ℕ → ℕ → State → List Event → State → List ℕ → Type 0
ExplainsRun states rules processes number S [] T text = (T ≡ S) × (text ≡ [])
ExplainsRun states rules processes number S (event ∷ events) T text =
    (between : State) × IsStep rules processes S event between
    × (own : List ℕ) × Explains rules processes S event between own
    × (told : List ℕ) × TellsState states rules processes number S between told
    × (rest : List ℕ) × ExplainsRun states rules processes (number + 1) between events T rest
    × (text ≡ entry_line event ++ own ++ told ++ rest)

-- how many more requests there are, if any
abbrev pub more_text : ℕ → List ℕ
more_text zero = []
more_text (suc more) = codes " and " ++ decimal (suc more) ++ codes " more"

-- why what a process sent is never taken, by where it stands; of one that lives nothing is left to take
abbrev pub untaken_reason : ProcState → Option (List ℕ)
untaken_reason Unborn = Some (codes " was never born")
untaken_reason Live = None
untaken_reason Waiting = Some (codes " waits")
untaken_reason Ended = Some (codes " has ended")

-- the line of so many requests of a process, from the one with this number on, that are never taken for this reason
abbrev pub never_taken_line : ℕ → ℕ → ℕ → Option (List ℕ) → List ℕ
never_taken_line p n zero reason = []
never_taken_line p n (suc more) None = []
never_taken_line p n (suc more) (Some reason) =
    codes "# " ++ tag p n ++ more_text more ++ codes " never taken: process " ++ decimal p ++ reason ++ 10 ∷ []

-- the line of a process of which not all that it sent was taken
abbrev pub untaken_line : ProcessLine → List ℕ
untaken_line line = never_taken_line line.p (line.taken + 1) (line.sent - line.taken) (untaken_reason line.state)

-- the lines of the processes from this one on, so many of them, of which not all that they sent was taken
unfoldable pub untaken_lines : (ℕ → ProcState) → List Event → (ℕ → ℕ) → ℕ → ℕ → List ℕ
untaken_lines states events sent p zero = []
untaken_lines states events sent p (suc more) = untaken_line (line_of states events sent p) ++ untaken_lines states events sent (p + 1) more

-- the script is accepted, and the text is the lines of its journal with what explains each and the states that are asked for, then the
-- report, and then what was never taken
pub record IsExplained (states : States) (bytes text : List ℕ) : Type 0 where
  pub script : Meaning
  pub accepted : Reads bytes (Ok script)
  pub journal : List Event
  pub state : State
  pub drained : IsDrain script.rules (processes_in script) script.arrivals journal state
  pub explained : List ℕ
  pub explains : ExplainsRun states script.rules (processes_in script) 1 opening_state journal state explained
  pub report : List ℕ
  pub is_report : IsReport (processes_in script) state journal (λ p. length (requests_sent p script.arrivals)) report
  pub is : text ≡ explained ++ report ++ untaken_lines state.states journal (λ p. length (requests_sent p script.arrivals)) 1 (processes_in script)

-- whether the line begins with `#`
abbrev pub is_comment_line : List ℕ → Bool
is_comment_line [] = false
is_comment_line (byte ∷ bytes) = byte == 35

-- the text without the lines that begin with `#`
abbrev pub without_comments : List ℕ → List ℕ
without_comments text = flat_map (λ line. line ++ 10 ∷ []) (filter (λ line. not (is_comment_line line)) (lines_of text))

-- what is explained of a script is, without the lines that begin with `#`, its output
abbrev pub ExplanationsAreComments : Type 0
ExplanationsAreComments = (states : States) (bytes text : List ℕ) → IsExplained states bytes text → IsOutput bytes (without_comments text)

-- with the same states, two texts that explain one run from the opening are equal
abbrev pub RunsHaveOneExplanation : Type 0
RunsHaveOneExplanation =
    (states : States) (rules : Rules) (processes : ℕ) (journal : List Event) (S T : State) (text other : List ℕ)
    → ExplainsRun states rules processes 1 opening_state journal S text → ExplainsRun states rules processes 1 opening_state journal T other
    → text ≡ other

-- with the same states, two explained texts of one script are equal
abbrev pub ScriptsHaveOneExplanation : Type 0
ScriptsHaveOneExplanation = (states : States) (bytes text other : List ℕ) → IsExplained states bytes text → IsExplained states bytes other → text ≡ other
