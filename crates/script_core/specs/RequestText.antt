-- The words of a request. A number has one spelling: decimal, without leading zeros, and with a minus sign where it is negative
-- (this project's choice).
use Rattle.std.specs.Prelude.{ℕ, zero, suc, Bool, true, false, ℤ, pos, negsuc, List, [], ◌∷◌, ◌++◌, codes, decimal}
use Rattle.std.specs.Fmt.{signed_decimal}
use Rattle.std.specs.List.{join_with_byte}
use Rattle.range_core.specs.declared.Mode.{Mode}
use Rattle.range_core.specs.declared.Mode.TheVariants as modes
use Rattle.range_core.specs.declared.Kind.{Kind}
use Rattle.range_core.specs.declared.Kind.TheVariants.{Read, Write, Unlock}
use Rattle.range_core.specs.declared.Whence.{Whence}
use Rattle.range_core.specs.declared.Whence.TheVariants.{Set, Cur, End}
use Rattle.fd_table.specs.declared.Access.{Access}
use Rattle.fd_table.specs.declared.Access.TheVariants.{R, W, Rw}
use Rattle.lock_manager.specs.declared.request.Lock.{Lock}
use Rattle.lock_manager.specs.declared.request.LkCmd.{LkCmd}
use Rattle.lock_manager.specs.declared.request.LkCmd.TheVariants.{GetLk, SetLk, SetLkW, OGetLk, OSetLk, OSetLkW}
use Rattle.lock_manager.specs.declared.request.FlockOp.{FlockOp}
use Rattle.lock_manager.specs.declared.request.FlockOp.TheVariants.{Sh, Ex, Un}
use Rattle.lock_manager.specs.declared.request.Request.{Request}
use Rattle.lock_manager.specs.declared.request.Request.TheVariants.{OpenFile, Dup, DupTo, CloseFd, Seek, Resize, Lk, Flock, Fork, Exit, Signal, Kill, Enter, Leave, Bail}
use Rattle.lock_manager.specs.declared.request.Visit.{Visit}
use Rattle.lock_manager.specs.declared.request.Visit.TheVariants.{Sole, Shared}
use Rattle.script_core.specs.declared.commands.CommandName.{CommandName}
use Rattle.script_core.specs.declared.commands.CommandName.TheVariants as names

-- the word of an access mode
abbrev pub access_word : Access → List ℕ
access_word R = codes "r"
access_word W = codes "w"
access_word Rw = codes "rw"

-- the word of a mode
abbrev pub mode_word : Mode → List ℕ
mode_word modes.Read = codes "r"
mode_word modes.Write = codes "w"

-- the word of a kind of lock
abbrev pub kind_word : Kind → List ℕ
kind_word Read = codes "r"
kind_word Write = codes "w"
kind_word Unlock = codes "u"

-- the word of a whence
abbrev pub whence_word : Whence → List ℕ
whence_word Set = codes "set"
whence_word Cur = codes "cur"
whence_word End = codes "end"

-- the word of an operation of flock
abbrev pub op_word : FlockOp → List ℕ
op_word Sh = codes "sh"
op_word Ex = codes "ex"
op_word Un = codes "un"

-- the word of a lock command of fcntl
abbrev pub lock_command_word : LkCmd → List ℕ
lock_command_word GetLk = codes "getlk"
lock_command_word SetLk = codes "setlk"
lock_command_word SetLkW = codes "setlkw"
lock_command_word OGetLk = codes "ogetlk"
lock_command_word OSetLk = codes "osetlk"
lock_command_word OSetLkW = codes "osetlkw"

-- the word of a command
abbrev pub command_word : CommandName → List ℕ
command_word (names.Lock cmd) = lock_command_word cmd
command_word names.Flock = codes "flock"
command_word names.Open = codes "open"
command_word names.Dup = codes "dup"
command_word names.DupTo = codes "dup2"
command_word names.Close = codes "close"
command_word names.Seek = codes "seek"
command_word names.Resize = codes "resize"
command_word names.Fork = codes "fork"
command_word names.Signal = codes "signal"
command_word names.Kill = codes "kill"
command_word names.Exit = codes "exit"
command_word names.Enter = codes "enter"
command_word names.Leave = codes "leave"
command_word names.Bail = codes "bail"

-- the member l_pid is written only where it isn't 0
abbrev pub pid_words : ℤ → List (List ℕ)
pid_words (pos zero) = []
pid_words (pos (suc n)) = decimal (suc n) ∷ []
pid_words (negsuc n) = signed_decimal (negsuc n) ∷ []

-- LOCK_NB is written only where it is set
abbrev pub nb_words : Bool → List (List ℕ)
nb_words true = codes "nb" ∷ []
nb_words false = []

-- a visit is written only where it is shared
abbrev pub visit_words : Visit → List (List ℕ)
visit_words Sole = []
visit_words Shared = codes "sh" ∷ []

-- the arguments of a lock command: descriptor, kind, whence, start and length
abbrev pub lock_words : ℕ → Lock → List (List ℕ)
lock_words fd lock =
    decimal fd ∷ kind_word lock.kind ∷ whence_word lock.whence ∷ signed_decimal lock.start ∷ signed_decimal lock.len ∷ []

-- the command and its arguments
abbrev pub request_words : Request → List (List ℕ)
request_words (OpenFile file access) = codes "open" ∷ decimal file ∷ access_word access ∷ []
request_words (Dup fd) = codes "dup" ∷ decimal fd ∷ []
request_words (DupTo fd to) = codes "dup2" ∷ decimal fd ∷ decimal to ∷ []
request_words (CloseFd fd) = codes "close" ∷ decimal fd ∷ []
request_words (Seek fd offset) = codes "seek" ∷ decimal fd ∷ signed_decimal offset ∷ []
request_words (Resize fd size) = codes "resize" ∷ decimal fd ∷ signed_decimal size ∷ []
request_words (Lk fd cmd lock) = lock_command_word cmd ∷ (lock_words fd lock ++ pid_words lock.pid)
request_words (Flock fd op nb) = codes "flock" ∷ decimal fd ∷ op_word op ∷ nb_words nb
request_words (Fork child) = codes "fork" ∷ decimal child ∷ []
request_words Exit = codes "exit" ∷ []
request_words (Signal target) = codes "signal" ∷ decimal target ∷ []
request_words (Kill target) = codes "kill" ∷ decimal target ∷ []
request_words (Enter section visit) = codes "enter" ∷ decimal section ∷ visit_words visit
request_words (Leave section) = codes "leave" ∷ decimal section ∷ []
request_words Bail = codes "bail" ∷ []

-- the words with one space between each two
abbrev pub request_text : Request → List ℕ
request_text request = join_with_byte 32 (request_words request)
