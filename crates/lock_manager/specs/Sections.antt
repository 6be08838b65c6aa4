-- Sections: who is in which, and whose last answer was an error (the words, and all that is said here, are this project's choice).
use Rattle.std.specs.Prelude.{◌≡◌, ℕ, ◌==◌, ◌&&◌, nat_lt, Bool, true, false, not, if◌then◌else◌, MatchBool, Option, Some, None, is_some, is_none, List, [], ◌∷◌}
use Rattle.lock_manager.specs.declared.request.TheConstants.{SECTIONS}
use Rattle.lock_manager.specs.declared.request.Errno.TheVariants.{EINVAL}
use Rattle.lock_manager.specs.declared.request.Note.{Note}
use Rattle.lock_manager.specs.declared.request.Note.TheVariants.{Answer, Waits}
use Rattle.lock_manager.specs.declared.request.ProcState.{ProcState}
use Rattle.lock_manager.specs.declared.request.ProcState.TheVariants.{Unborn, Live, Waiting, Ended}
use Rattle.lock_manager.specs.declared.request.Reply.{Reply}
use Rattle.lock_manager.specs.declared.request.Reply.TheVariants as replies
use Rattle.lock_manager.specs.declared.request.Request.{Request}
use Rattle.lock_manager.specs.declared.request.Request.TheVariants.{OpenFile, Dup, DupTo, CloseFd, Seek, Resize, Lk, Flock, Fork, Exit, Signal, Kill, Enter, Leave, Bail}
use Rattle.lock_manager.specs.declared.request.Visit.{Visit}
use Rattle.lock_manager.specs.declared.request.Visit.TheVariants.{Sole, Shared}
use Rattle.lock_manager.specs.State.{State, Visits}
use Rattle.lock_manager.specs.Outcomes.{Outcome, answered, refused}
use Rattle.lock_manager.specs.ProcessCalls.{EndComesTo}

-- whether the process may enter: there is such a section, and the process isn't in it, by whichever visit
abbrev pub may_enter : Visits → ℕ → ℕ → Bool
may_enter visits p section = nat_lt section SECTIONS && is_none (visits p section)

-- whether the process may leave: it is in the section
abbrev pub may_leave : Visits → ℕ → ℕ → Bool
may_leave visits p section = is_some (visits p section)

-- the process is in the section by this visit from now on, or isn't in it
abbrev pub with_visit : Visits → ℕ → ℕ → Option Visit → Visits
with_visit visits p section visit q other = if (q == p) && (other == section) then visit else visits q other

-- who is in which section behind the request: an enter or a leave that may be done is, and nothing else moves anybody
abbrev pub visits_behind : Visits → ℕ → Request → Visits
visits_behind visits p (Enter section visit) = if may_enter visits p section then with_visit visits p section (Some visit) else visits
visits_behind visits p (Leave section) = with_visit visits p section None
visits_behind visits p Bail = visits
visits_behind visits p (OpenFile file access) = visits
visits_behind visits p (Dup fd) = visits
visits_behind visits p (DupTo fd to) = visits
visits_behind visits p (CloseFd fd) = visits
visits_behind visits p (Seek fd offset) = visits
visits_behind visits p (Resize fd size) = visits
visits_behind visits p (Lk fd cmd lock) = visits
visits_behind visits p (Flock fd op nb) = visits
visits_behind visits p (Fork child) = visits
visits_behind visits p Exit = visits
visits_behind visits p (Signal target) = visits
visits_behind visits p (Kill target) = visits

-- whether a process that stands so has ended
abbrev pub has_ended : ProcState → Bool
has_ended Ended = true
has_ended Unborn = false
has_ended Live = false
has_ended Waiting = false

-- whether a process that stands so lives
abbrev pub is_live : ProcState → Bool
is_live Live = true
is_live Unborn = false
is_live Waiting = false
is_live Ended = false

-- who has ended is in no section
abbrev pub visits_left : (ℕ → ProcState) → Visits → Visits
visits_left states visits p section = if has_ended (states p) then None else visits p section

-- whether the reply is an error
abbrev pub is_error : Reply → Bool
is_error (replies.Err error) = true
is_error replies.Ok = false
is_error (replies.Fd fd) = false
is_error replies.Free = false
is_error (replies.Held mode start len pid) = false

-- whether the last of these answers to the process is an error; as it was, where none is to it
abbrev pub last_refused : List Note → ℕ → Bool → Bool
last_refused [] p was = was
last_refused (Answer q n reply ∷ notes) p was = last_refused notes p (if p == q then is_error reply else was)
last_refused (Waits q n ∷ notes) p was = last_refused notes p was

-- of each process that lives behind these answers, whether its last one was an error; who waits is answered before it asks again
abbrev pub refused_behind : (ℕ → ProcState) → List Note → (ℕ → Bool) → ℕ → Bool
refused_behind states told was p = is_live (states p) && last_refused told p (was p)

-- the state that the request comes to, with who is then in which section, and whose last answer was an error. The grants of the settling, which
-- are all told Ok, go to processes that wait here, so they make nobody's last answer one
abbrev pub marked : State → ℕ → Request → Outcome → State
marked S p request outcome =
    record outcome.after {
      visits = visits_left outcome.after.states (visits_behind S.visits p request);
      refused = refused_behind outcome.after.states outcome.told S.refused;
    }

-- whether this visit and another, if there is one, keep each other out: one of the two is not shared
abbrev pub keeps_out : Visit → Option Visit → Bool
keeps_out visit None = false
keeps_out Sole (Some other) = true
keeps_out Shared (Some Sole) = true
keeps_out Shared (Some Shared) = false

-- whether process q is another one than p, and in the section though it and this visit of p keep each other out
abbrev pub is_together : Visits → ℕ → ℕ → Visit → ℕ → Bool
is_together visits p section visit q = not (q == p) && keeps_out visit (visits q section)

-- enter: EINVAL where the process may not; else it is answered, and is in the section from then on
abbrev pub EnterComesTo : State → ℕ → ℕ → ℕ → Outcome → Type 0
EnterComesTo S p n section outcome =
    MatchBool (may_enter S.visits p section) (outcome ≡ answered S p n replies.Ok) (outcome ≡ refused S p n EINVAL)

-- leave: EINVAL where the process isn't in the section; else it is answered, and isn't any more
abbrev pub LeaveComesTo : State → ℕ → ℕ → ℕ → Outcome → Type 0
LeaveComesTo S p n section outcome =
    MatchBool (may_leave S.visits p section) (outcome ≡ answered S p n replies.Ok) (outcome ≡ refused S p n EINVAL)

-- bail: where the last answer to the process was an error it is an exit, of which nothing is told; else it is answered, and changes nothing
abbrev pub BailComesTo : State → ℕ → ℕ → Outcome → Type 0
BailComesTo S p n outcome = MatchBool (S.refused p) (EndComesTo S p [] outcome) (outcome ≡ answered S p n replies.Ok)
