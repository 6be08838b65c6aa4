-- The arguments of the commands, and the first bad one (this project's choice).
use Rattle.std.specs.Prelude.{◌≡◌, ℕ, ◌+◌, ◌^◌, ◌<◌, ◌≤◌, ◌==◌, Bool, ◌||◌, ℤ, FitsSigned, Option, List, [], ◌∷◌, length, MatchBool, find, codes, decimal, bytes_eq}
use Rattle.std.specs.Int.{w64}
use Rattle.std.specs.Fmt.{signed_decimal}
use Rattle.range_core.specs.declared.Kind.{Kind}
use Rattle.range_core.specs.declared.Mode.{Mode}
use Rattle.range_core.specs.declared.Whence.{Whence}
use Rattle.fd_table.specs.declared.TheConstants.{FILES}
use Rattle.fd_table.specs.declared.Access.{Access}
use Rattle.fd_table.specs.declared.Limits.{Limits}
use Rattle.wait_core.specs.declared.Policy.{Policy}
use Rattle.range_core.specs.Facts.{MatchFact}
use Rattle.fd_table.specs.Descriptors.{process_limit}
use Rattle.lock_manager.specs.declared.request.TheConstants.{SECTIONS}
use Rattle.lock_manager.specs.declared.request.Errno.{Errno}
use Rattle.lock_manager.specs.declared.request.FlockOp.{FlockOp}
use Rattle.script_core.specs.declared.script.Cause.{Cause}
use Rattle.script_core.specs.declared.script.Cause.TheVariants.{Word, Count, Number, Process}
use Rattle.script_core.specs.EntryText.{error_name}
use Rattle.script_core.specs.HeaderText.{policy_word, limits_word}
use Rattle.script_core.specs.RequestText.{access_word, mode_word, kind_word, whence_word, op_word}

-- what may stand in the place of an argument
pub data Argument : Type 0 where
  FileNumber SectionNumber DescriptorNumber AnyNumber UnsignedNumber : Argument
  AccessWord ModeWord KindWord WhenceWord OpWord NbWord SharedWord ErrorWord PolicyWord LimitsWord : Argument
  ProcessNumber : Limits → Argument

-- the word is a spelling of such an argument
abbrev pub Spells : Argument → List ℕ → Type 0
Spells FileNumber word = (n : ℕ) × (n < FILES) × (word ≡ decimal n)
Spells SectionNumber word = (n : ℕ) × (n < SECTIONS) × (word ≡ decimal n)
Spells DescriptorNumber word = (n : ℕ) × (n < 2 ^ 32) × (word ≡ decimal n)
Spells AnyNumber word = (z : ℤ) × FitsSigned w64 z × (word ≡ signed_decimal z)
Spells UnsignedNumber word = (n : ℕ) × (n < 2 ^ 64) × (word ≡ decimal n)
Spells (ProcessNumber limits) word = (n : ℕ) × (1 ≤ n) × (n ≤ process_limit limits) × (word ≡ decimal n)
Spells AccessWord word = (access : Access) × (word ≡ access_word access)
Spells ModeWord word = (mode : Mode) × (word ≡ mode_word mode)
Spells KindWord word = (kind : Kind) × (word ≡ kind_word kind)
Spells WhenceWord word = (whence : Whence) × (word ≡ whence_word whence)
Spells OpWord word = (op : FlockOp) × (word ≡ op_word op)
Spells NbWord word = word ≡ codes "nb"
Spells SharedWord word = word ≡ codes "sh"
Spells ErrorWord word = (error : Errno) × (word ≡ error_name error)
Spells PolicyWord word = (policy : Policy) × (word ≡ policy_word policy)
Spells LimitsWord word = (limits : Limits) × (word ≡ limits_word limits)

-- what is wrong with a word that spells no such argument
abbrev pub cause_of : Argument → Cause
cause_of FileNumber = Number
cause_of SectionNumber = Number
cause_of DescriptorNumber = Number
cause_of AnyNumber = Number
cause_of UnsignedNumber = Number
cause_of (ProcessNumber limits) = Process
cause_of AccessWord = Word
cause_of ModeWord = Word
cause_of KindWord = Word
cause_of WhenceWord = Word
cause_of OpWord = Word
cause_of NbWord = Word
cause_of SharedWord = Word
cause_of ErrorWord = Word
cause_of PolicyWord = Word
cause_of LimitsWord = Word

-- the word spells no such argument, and this is its cause
abbrev pub IsBad : Argument → List ℕ → Cause → Type 0
IsBad argument word cause = (¬ (Spells argument word)) × (cause ≡ cause_of argument)

-- the first of the words, from the left, that spells no argument of its place has this cause
abbrev pub IsFirstBad : List Argument → List (List ℕ) → Cause → Type 0
IsFirstBad [] words cause = ⊥
IsFirstBad (argument ∷ arguments) [] cause = ⊥
IsFirstBad (argument ∷ arguments) (word ∷ words) cause =
    MatchFact (Spells argument word) (IsFirstBad arguments words cause) (cause ≡ cause_of argument)

-- the words are not such arguments: another number of them stands there, or the first bad one has this cause
abbrev pub AreRefused : List Argument → List (List ℕ) → Cause → Type 0
AreRefused arguments words cause =
    MatchBool (length words == length arguments) (IsFirstBad arguments words cause) (cause ≡ Count)

-- a command: its word, the arguments that it has, and those that may follow them
pub record Command : Type 0 where
  pub name : List ℕ
  pub required : List Argument
  pub optional : List Argument

-- a command with just these arguments
abbrev pub plain_command : List ℕ → List Argument → Command
plain_command name required = record { name = name; required = required; optional = [] }

-- open: a file and an access mode
abbrev pub open_command : Command
open_command = plain_command (codes "open") (FileNumber ∷ AccessWord ∷ [])

-- what a lock command has in any case: descriptor, kind, whence, start and length
abbrev pub lock_arguments : List Argument
lock_arguments = DescriptorNumber ∷ KindWord ∷ WhenceWord ∷ AnyNumber ∷ AnyNumber ∷ []

-- a lock command of fcntl: these, and then a pid or none
abbrev pub lock_command : List ℕ → Command
lock_command name = record { name = name; required = lock_arguments; optional = AnyNumber ∷ [] }

-- a command on a descriptor alone: dup, close
abbrev pub descriptor_command : List ℕ → Command
descriptor_command name = plain_command name (DescriptorNumber ∷ [])

-- a command on a descriptor and a number: seek, resize
abbrev pub number_command : List ℕ → Command
number_command name = plain_command name (DescriptorNumber ∷ AnyNumber ∷ [])

-- dup2: a descriptor, and the one that is to refer to the same description
abbrev pub dup_to_command : Command
dup_to_command = plain_command (codes "dup2") (DescriptorNumber ∷ DescriptorNumber ∷ [])

-- flock: a descriptor and an operation, and then `nb` or nothing
abbrev pub flock_command : Command
flock_command = record { name = codes "flock"; required = DescriptorNumber ∷ OpWord ∷ []; optional = NbWord ∷ [] }

-- a command on a process alone: fork, signal, kill
abbrev pub process_command : Limits → List ℕ → Command
process_command limits name = plain_command name (ProcessNumber limits ∷ [])

-- exit: no argument
abbrev pub exit_command : Command
exit_command = plain_command (codes "exit") []

-- enter: a section, and then `sh` or nothing
abbrev pub enter_command : Command
enter_command = record { name = codes "enter"; required = SectionNumber ∷ []; optional = SharedWord ∷ [] }

-- leave: a section
abbrev pub leave_command : Command
leave_command = plain_command (codes "leave") (SectionNumber ∷ [])

-- bail: no argument
abbrev pub bail_command : Command
bail_command = plain_command (codes "bail") []

-- all commands, with the processes that these limits have
abbrev pub commands : Limits → List Command
commands limits =
    open_command ∷ descriptor_command (codes "dup") ∷ dup_to_command ∷ descriptor_command (codes "close")
    ∷ number_command (codes "seek") ∷ number_command (codes "resize")
    ∷ lock_command (codes "getlk") ∷ lock_command (codes "setlk") ∷ lock_command (codes "setlkw")
    ∷ lock_command (codes "ogetlk") ∷ lock_command (codes "osetlk") ∷ lock_command (codes "osetlkw")
    ∷ flock_command ∷ process_command limits (codes "fork") ∷ process_command limits (codes "signal") ∷ process_command limits (codes "kill")
    ∷ exit_command ∷ enter_command ∷ leave_command ∷ bail_command ∷ []

-- the command of this word, if it is one
abbrev pub command_named : Limits → List ℕ → Option Command
command_named limits word = find (λ command. bytes_eq command.name word) (commands limits)

-- whether the command has so many arguments: those required, with the optional ones or without
abbrev pub has_count : Command → ℕ → Bool
has_count command count =
    (count == length command.required) || (count == length command.required + length command.optional)
