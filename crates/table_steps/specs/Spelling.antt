-- How a request, and an answer, are spelled in the six words of a cell (this project's choice).
use Rattle.std.specs.Prelude.{ℕ, ◌+◌, ◌*◌, ◌/◌, ◌%◌, ◌==◌, ◌<◌, ◌^◌, if◌then◌else◌, Bool, true, false, ℤ, List, [], ◌∷◌}
use Rattle.std.specs.Int.{cast_unsigned, cast_signed}
use Rattle.std.specs.Int.RustNames.{FitsSigned}
use mir.Syntax.{w64}
use Rattle.range_core.specs.declared.Mode.{Mode}
use Rattle.range_core.specs.declared.Mode.TheVariants as modes
use Rattle.range_core.specs.declared.Kind.{Kind}
use Rattle.range_core.specs.declared.Kind.TheVariants.{Read, Write, Unlock}
use Rattle.range_core.specs.declared.Whence.{Whence}
use Rattle.range_core.specs.declared.Whence.TheVariants.{Set, Cur, End}
use Rattle.fd_table.specs.declared.Access.{Access}
use Rattle.fd_table.specs.declared.Access.TheVariants.{R, W, Rw}
use Rattle.lock_manager.specs.declared.request.Lock.{Lock}
use Rattle.lock_manager.specs.declared.request.LkCmd.{LkCmd}
use Rattle.lock_manager.specs.declared.request.LkCmd.TheVariants.{GetLk, SetLk, SetLkW, OGetLk, OSetLk, OSetLkW}
use Rattle.lock_manager.specs.declared.request.FlockOp.{FlockOp}
use Rattle.lock_manager.specs.declared.request.FlockOp.TheVariants.{Sh, Ex, Un}
use Rattle.lock_manager.specs.declared.request.Request.{Request}
use Rattle.lock_manager.specs.declared.request.Request.TheVariants.{OpenFile, Dup, DupTo, CloseFd, Seek, Resize, Lk, Flock, Fork}
use Rattle.lock_manager.specs.declared.request.Request.TheVariants.{Exit, Signal, Kill, Enter, Leave, Bail}
use Rattle.lock_manager.specs.declared.request.Visit.{Visit}
use Rattle.lock_manager.specs.declared.request.Visit.TheVariants.{Sole, Shared}
use Rattle.lock_manager.specs.declared.request.Errno.{Errno}
use Rattle.lock_manager.specs.declared.request.Errno.TheVariants.{EBADF, EINVAL, EOVERFLOW, EAGAIN, EDEADLK, EINTR, EMFILE, ESRCH}
use Rattle.lock_manager.specs.declared.request.Reply.{Reply}
use Rattle.lock_manager.specs.declared.request.Reply.TheVariants as replies

-- the two's complement of 64 bits
abbrev pub word_of : ℤ → ℕ
word_of z = cast_unsigned w64 z

-- the number whose two's complement a word is
abbrev pub number_in : ℕ → ℤ
number_in word = cast_signed w64 word

-- the code of an access mode, and the mode of a code
abbrev pub access_code : Access → ℕ
access_code R = 0
access_code W = 1
access_code Rw = 2

abbrev pub access_in : ℕ → Access
access_in code = if code == 0 then R else (if code == 1 then W else Rw)

-- the code of a lock's mode, and the mode of a code
abbrev pub mode_code : Mode → ℕ
mode_code modes.Read = 0
mode_code modes.Write = 1

abbrev pub mode_in : ℕ → Mode
mode_in code = if code == 0 then modes.Read else modes.Write

-- the code of a lock's kind, and the kind of a code
abbrev pub kind_code : Kind → ℕ
kind_code Read = 0
kind_code Write = 1
kind_code Unlock = 2

abbrev pub kind_in : ℕ → Kind
kind_in code = if code == 0 then Read else (if code == 1 then Write else Unlock)

-- the code of what a start counts from, and what a code says of it
abbrev pub whence_code : Whence → ℕ
whence_code Set = 0
whence_code Cur = 1
whence_code End = 2

abbrev pub whence_in : ℕ → Whence
whence_in code = if code == 0 then Set else (if code == 1 then Cur else End)

-- the code of an operation of flock, and the operation of a code
abbrev pub op_code : FlockOp → ℕ
op_code Sh = 0
op_code Ex = 1
op_code Un = 2

abbrev pub op_in : ℕ → FlockOp
op_in code = if code == 0 then Sh else (if code == 1 then Ex else Un)

-- the code of a visit, and the visit of a code
abbrev pub visit_code : Visit → ℕ
visit_code Sole = 0
visit_code Shared = 1

abbrev pub visit_of_code : ℕ → Visit
visit_of_code code = if code == 0 then Sole else Shared

-- the code of a flag, and the flag of a code
abbrev pub flag_code : Bool → ℕ
flag_code false = 0
flag_code true = 1

abbrev pub flag_in : ℕ → Bool
flag_in code = code == 1

-- the code of a lock command, and the command of a code
abbrev pub command_code : LkCmd → ℕ
command_code GetLk = 7
command_code SetLk = 8
command_code SetLkW = 9
command_code OGetLk = 10
command_code OSetLk = 11
command_code OSetLkW = 12

abbrev pub command_in : ℕ → LkCmd
command_in code =
    if code == 7 then GetLk
    else (if code == 8 then SetLk
    else (if code == 9 then SetLkW
    else (if code == 10 then OGetLk
    else (if code == 11 then OSetLk else OSetLkW))))

-- six words
abbrev pub six : ℕ → ℕ → ℕ → ℕ → ℕ → ℕ → List ℕ
six a b c d e f = a ∷ b ∷ c ∷ d ∷ e ∷ f ∷ []

-- the six words of a request
abbrev pub request_spelled : Request → List ℕ
request_spelled (OpenFile file access) = six 1 file (access_code access) 0 0 0
request_spelled (Dup fd) = six 2 fd 0 0 0 0
request_spelled (DupTo fd to) = six 3 fd to 0 0 0
request_spelled (CloseFd fd) = six 4 fd 0 0 0 0
request_spelled (Seek fd offset) = six 5 fd 0 (word_of offset) 0 0
request_spelled (Resize fd size) = six 6 fd 0 (word_of size) 0 0
request_spelled (Lk fd command lock) =
    six (command_code command) fd (3 * whence_code lock.whence + kind_code lock.kind)
    (word_of lock.start) (word_of lock.len) (word_of lock.pid)
request_spelled (Flock fd op nb) = six 13 fd (2 * op_code op + flag_code nb) 0 0 0
request_spelled (Fork child) = six 14 child 0 0 0 0
request_spelled Exit = six 15 0 0 0 0 0
request_spelled (Signal target) = six 16 target 0 0 0 0
request_spelled (Kill target) = six 17 target 0 0 0 0
request_spelled (Enter section visit) = six 18 section (visit_code visit) 0 0 0
request_spelled (Leave section) = six 19 section 0 0 0 0
request_spelled Bail = six 20 0 0 0 0 0

-- the lock description that four words of a cell spell
abbrev pub lock_in : ℕ → ℕ → ℕ → ℕ → Lock
lock_in how start len pid =
    record {
      kind = kind_in (how % 3);
      whence = whence_in (how / 3);
      start = number_in start;
      len = number_in len;
      pid = number_in pid;
    }

-- the request that six words spell
abbrev pub request_of_words : ℕ → ℕ → ℕ → ℕ → ℕ → ℕ → Request
request_of_words a b c d e f =
    if a == 1 then OpenFile b (access_in c)
    else (if a == 2 then Dup b
    else (if a == 3 then DupTo b c
    else (if a == 4 then CloseFd b
    else (if a == 5 then Seek b (number_in d)
    else (if a == 6 then Resize b (number_in d)
    else (if a == 13 then Flock b (op_in (c / 2)) (flag_in (c % 2))
    else (if a == 14 then Fork b
    else (if a == 15 then Exit
    else (if a == 16 then Signal b
    else (if a == 17 then Kill b
    else (if a == 18 then Enter b (visit_of_code c)
    else (if a == 19 then Leave b
    else (if a == 20 then Bail else Lk b (command_in a) (lock_in c d e f))))))))))))))

-- the numbers of a request fit their types, as those of each request of the program do
abbrev pub RequestFits : Request → Type 0
RequestFits (OpenFile file access) = file < 2 ^ 8
RequestFits (Dup fd) = fd < 2 ^ 32
RequestFits (DupTo fd to) = (fd < 2 ^ 32) × (to < 2 ^ 32)
RequestFits (CloseFd fd) = fd < 2 ^ 32
RequestFits (Seek fd offset) = (fd < 2 ^ 32) × FitsSigned w64 offset
RequestFits (Resize fd size) = (fd < 2 ^ 32) × FitsSigned w64 size
RequestFits (Lk fd command lock) = (fd < 2 ^ 32) × FitsSigned w64 lock.start × FitsSigned w64 lock.len × FitsSigned w64 lock.pid
RequestFits (Flock fd op nb) = fd < 2 ^ 32
RequestFits (Fork child) = child < 2 ^ 8
RequestFits Exit = Unit {0}
RequestFits (Signal target) = target < 2 ^ 8
RequestFits (Kill target) = target < 2 ^ 8
RequestFits (Enter section visit) = section < 2 ^ 8
RequestFits (Leave section) = section < 2 ^ 8
RequestFits Bail = Unit {0}

-- the code of an error, and the error of a code
abbrev pub error_code : Errno → ℕ
error_code EBADF = 1
error_code EINVAL = 2
error_code EOVERFLOW = 3
error_code EAGAIN = 4
error_code EDEADLK = 5
error_code EINTR = 6
error_code EMFILE = 7
error_code ESRCH = 8

abbrev pub error_in : ℕ → Errno
error_in code =
    if code == 1 then EBADF
    else (if code == 2 then EINVAL
    else (if code == 3 then EOVERFLOW
    else (if code == 4 then EAGAIN
    else (if code == 5 then EDEADLK
    else (if code == 6 then EINTR
    else (if code == 7 then EMFILE else ESRCH))))))

-- the six words of a reply, with its place in the journal
abbrev pub answer_spelled : Reply → ℕ → List ℕ
answer_spelled replies.Ok place = six 1 0 0 0 0 place
answer_spelled (replies.Fd fd) place = six 2 fd 0 0 0 place
answer_spelled replies.Free place = six 3 0 0 0 0 place
answer_spelled (replies.Held mode start len pid) place = six 4 (mode_code mode) start len (word_of pid) place
answer_spelled (replies.Err error) place = six 5 (error_code error) 0 0 0 place

-- the reply that six words spell
abbrev pub reply_of_words : ℕ → ℕ → ℕ → ℕ → ℕ → Reply
reply_of_words a b c d e =
    if a == 1 then replies.Ok
    else (if a == 2 then replies.Fd b
    else (if a == 3 then replies.Free
    else (if a == 4 then replies.Held (mode_in b) c d (number_in e)
    else replies.Err (error_in b))))

-- the numbers of a reply fit their types
abbrev pub ReplyFits : Reply → Type 0
ReplyFits replies.Ok = Unit {0}
ReplyFits (replies.Fd fd) = fd < 2 ^ 32
ReplyFits replies.Free = Unit {0}
ReplyFits (replies.Held mode start len pid) = FitsSigned w64 pid
ReplyFits (replies.Err error) = Unit {0}
