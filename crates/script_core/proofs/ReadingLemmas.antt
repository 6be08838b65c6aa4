-- A script has one reading, and header lines say one thing: for `parse`, `read_named` and `JournalReader::next`.
use Rattle.script_core.proofs.Common.{common_steps, rules, ◌≡◌, ℕ, ◌+◌, ◌<◌, ◌^◌, ◌⊎◌, Bool, true, false, cond, List, [], ◌∷◌, ◌++◌, length, drop, get_or, codes, ℤ, pos, FitsSigned, w64, MatchBool, MatchOption, MatchResult, Option, Some, None, Result, Ok, Err, inl, inr, refl, sym, ap, ◌∙◌, subst, arith, nat_lt, digits, signed_decimal, decimal_injective}
use Rattle.script_core.proofs.Common.{Access, LkCmd, GetLk, SetLk, SetLkW, OGetLk, OSetLk, OSetLkW, Lock, Limits, Small, Policy, FlockOp, Sh, Ex, Un, Request, OpenFile, Dup, DupTo, CloseFd, Seek, Resize, Lk, Flock, Fork, Exit, Signal, Kill, Enter, Leave, Bail, Visit, Kind, Whence, Header, Line, Cause, Byte, Word, Count, TooLong, ScriptFault, words_of, is_printable, line_limit, access_word, kind_word, whence_word, op_word, nb_words, visit_words, lock_command_word, pid_words, request_words, Argument, AnyNumber, Spells, IsFirstBad, AreRefused, Command, command_named, has_count, Meaning, Says, IsProcess, IsWritable, Reading, ArgumentsGive, CommandGives, RequestGives, ArrivalGives, ProcessGives, WordsGive, LineGives, LinesGive, is_comment, is_empty, limits_of, meaning_of, reading_after}
use Rattle.std.proofs.Common.{unwrap_or}
use Rattle.std.specs.Str.{bytes_eq}
use Rattle.std.specs.Str.Parse.{digits_value}
use Rattle.fd_table.specs.declared.Access.TheVariants.{R, W, Rw}
use Rattle.fd_table.specs.declared.Limits.TheVariants.{Wide}
use Rattle.wait_core.specs.declared.Policy.TheVariants.{Held, Queue}
use Rattle.lock_manager.specs.declared.request.Visit.TheVariants.{Sole, Shared}
use Rattle.range_core.specs.declared.Kind.TheVariants.{Read, Write, Unlock}
use Rattle.range_core.specs.declared.Whence.TheVariants.{Set, Cur, End}
use Rattle.script_core.specs.declared.commands.CommandName.{CommandName}
use Rattle.script_core.specs.declared.commands.CommandName.TheVariants as names
use Rattle.script_core.specs.declared.line.Line.TheVariants as lines
use Rattle.script_core.specs.HeaderText.{policy_word, limits_word}
use Rattle.script_core.specs.RequestText.{command_word, lock_words}
use Rattle.script_core.specs.Arguments.{FileNumber, SectionNumber, DescriptorNumber, ProcessNumber, AccessWord, OpWord, NbWord, SharedWord, PolicyWord, LimitsWord, lock_arguments, lock_command}
use Rattle.script_core.specs.ScriptText.{HasZeroPid, IsRequest}
use Rattle.script_core.specs.HeaderReading.{ValueGives, HeaderGives, says_policy, says_limits}
use Rattle.script_core.specs.Reading.{HasOneReading, start}
use Rattle.script_core.proofs.NumberLemmas.{number_in, number_in-zero, digits_value-spelled, number_in-spelled}

pub same_value : {X : Type 0} (value a b : X) → a ≡ value → b ≡ value → a ≡ b
same_value value a b first second = first ∙ sym second

-- a choice by a test is settled where both sides are
pub MatchBool-unique : {X : Type 0} (P Q : X → Type 0) (test : Bool) → ((a b : X) → P a → P b → a ≡ b) → ((a b : X) → Q a → Q b → a ≡ b)
    → (a b : X) → MatchBool test (P a) (Q a) → MatchBool test (P b) (Q b) → a ≡ b
MatchBool-unique P Q test here there a b first second = grind (arith, common_steps)

-- the first bad argument has one cause
IsFirstBad-unique : (arguments : List Argument) (words : List (List ℕ)) (a b : Cause) → IsFirstBad arguments words a → IsFirstBad arguments words b → a ≡ b
IsFirstBad-unique [] words a b first second = absurd first
IsFirstBad-unique (argument ∷ arguments) [] a b first second = absurd first
IsFirstBad-unique (argument ∷ arguments) (word ∷ words) a b (inl first) (inl second) = IsFirstBad-unique arguments words a b first.1 second.1
IsFirstBad-unique (argument ∷ arguments) (word ∷ words) a b (inl first) (inr second) = absurd (second.0 first.0)
IsFirstBad-unique (argument ∷ arguments) (word ∷ words) a b (inr first) (inl second) = absurd (first.0 second.0)
IsFirstBad-unique (argument ∷ arguments) (word ∷ words) a b (inr first) (inr second) = first.1 ∙ sym second.1

-- what may stand behind the words of a lock command with this pid: nothing where it is 0, or its spelling
abbrev PidFollows : ℤ → List (List ℕ) → Type 0
PidFollows pid rest = ((pid ≡ pos 0) × (rest ≡ [])) ⊎ (rest ≡ signed_decimal pid ∷ [])

PidFollows-pid_words : (pid : ℤ) → PidFollows pid (pid_words pid)
PidFollows-pid_words pid = search (rules)

zero_follows : pid_words (pos 0) ++ codes "0" ∷ [] ≡ signed_decimal (pos 0) ∷ []
unfolding digits
zero_follows = refl

PidFollows-zero : (pid : ℤ) → pid ≡ pos 0 → PidFollows pid (pid_words pid ++ codes "0" ∷ [])
PidFollows-zero pid e = subst (λ z. PidFollows z (pid_words z ++ codes "0" ∷ [])) (sym e) (inr zero_follows)

-- the words of a lock command, with what stands behind them
record SaysLock (words : List (List ℕ)) (fd : ℕ) (cmd : LkCmd) (lock : Lock) : Type 0 where
  rest : List (List ℕ)
  are : words ≡ lock_command_word cmd ∷ (lock_words fd lock ++ rest)
  follows : PidFollows lock.pid rest

SaysLock-from_says : (words : List (List ℕ)) (fd : ℕ) (cmd : LkCmd) (lock : Lock) → Says words (Lk fd cmd lock) → SaysLock words fd cmd lock
SaysLock-from_says words fd cmd lock h = grind (arith, common_steps, PidFollows-pid_words, PidFollows-zero)

-- the word of an access mode, a kind, a whence or an operation of flock, read back
access_in : List ℕ → Access
access_in word = cond (bytes_eq word (codes "r")) R (cond (bytes_eq word (codes "w")) W Rw)

kind_in : List ℕ → Kind
kind_in word = cond (bytes_eq word (codes "r")) Read (cond (bytes_eq word (codes "w")) Write Unlock)

whence_in : List ℕ → Whence
whence_in word = cond (bytes_eq word (codes "set")) Set (cond (bytes_eq word (codes "cur")) Cur End)

op_in : List ℕ → FlockOp
op_in word = cond (bytes_eq word (codes "sh")) Sh (cond (bytes_eq word (codes "ex")) Ex Un)

-- whether anything is written behind the operation of flock
nb_in : List (List ℕ) → Bool
nb_in [] = false
nb_in (word ∷ words) = true

-- the visit by what is written behind a section
visit_written : List (List ℕ) → Visit
visit_written [] = Sole
visit_written (word ∷ words) = Shared

access_in-word : (access : Access) → access_in (access_word access) ≡ access
unfolding access_in
access_in-word access = search (rules)

kind_in-word : (kind : Kind) → kind_in (kind_word kind) ≡ kind
unfolding kind_in
kind_in-word kind = search (rules)

whence_in-word : (whence : Whence) → whence_in (whence_word whence) ≡ whence
unfolding whence_in
whence_in-word whence = search (rules)

op_in-word : (op : FlockOp) → op_in (op_word op) ≡ op
unfolding op_in
op_in-word op = search (rules)

nb_in-words : (nb : Bool) → nb_in (nb_words nb) ≡ nb
unfolding nb_in
nb_in-words true = refl
nb_in-words false = refl

visit_written-words : (visit : Visit) → visit_written (visit_words visit) ≡ visit
unfolding visit_written
visit_written-words Sole = refl
visit_written-words Shared = refl

-- the numbers at a place of the words
unfoldable pub natural_at : ℕ → List (List ℕ) → ℕ
natural_at place words = digits_value 10 (get_or words place [])

unfoldable pub number_at : ℕ → List (List ℕ) → ℤ
number_at place words = number_in (get_or words place (codes "0"))

-- the lock that the words of a lock command describe
lock_in : List (List ℕ) → Lock
lock_in words = record {
  kind = kind_in (get_or words 2 []);
  whence = whence_in (get_or words 3 []);
  start = number_at 4 words;
  len = number_at 5 words;
  pid = number_at 6 words;
}

-- the request that the words say, read back from them
said : List (List ℕ) → Request
said words =
    let name = get_or words 0 [] in
    let fd = natural_at 1 words in
    cond (bytes_eq name (codes "open")) (OpenFile fd (access_in (get_or words 2 [])))
    (cond (bytes_eq name (codes "dup")) (Dup fd)
    (cond (bytes_eq name (codes "dup2")) (DupTo fd (natural_at 2 words))
    (cond (bytes_eq name (codes "close")) (CloseFd fd)
    (cond (bytes_eq name (codes "seek")) (Seek fd (number_at 2 words))
    (cond (bytes_eq name (codes "resize")) (Resize fd (number_at 2 words))
    (cond (bytes_eq name (codes "getlk")) (Lk fd GetLk (lock_in words))
    (cond (bytes_eq name (codes "setlk")) (Lk fd SetLk (lock_in words))
    (cond (bytes_eq name (codes "setlkw")) (Lk fd SetLkW (lock_in words))
    (cond (bytes_eq name (codes "ogetlk")) (Lk fd OGetLk (lock_in words))
    (cond (bytes_eq name (codes "osetlk")) (Lk fd OSetLk (lock_in words))
    (cond (bytes_eq name (codes "osetlkw")) (Lk fd OSetLkW (lock_in words))
    (cond (bytes_eq name (codes "flock")) (Flock fd (op_in (get_or words 2 [])) (nb_in (drop 3 words)))
    (cond (bytes_eq name (codes "fork")) (Fork fd)
    (cond (bytes_eq name (codes "signal")) (Signal fd)
    (cond (bytes_eq name (codes "kill")) (Kill fd)
    (cond (bytes_eq name (codes "enter")) (Enter fd (visit_written (drop 2 words)))
    (cond (bytes_eq name (codes "leave")) (Leave fd)
    (cond (bytes_eq name (codes "bail")) Bail Exit))))))))))))))))))

said_lock : (cmd : LkCmd) (arguments : List (List ℕ))
    → said (lock_command_word cmd ∷ arguments) ≡ Lk (natural_at 1 (lock_command_word cmd ∷ arguments)) cmd (lock_in (lock_command_word cmd ∷ arguments))
unfolding said
said_lock cmd arguments = search (rules)

pid_said : (pid : ℤ) (rest : List (List ℕ)) → PidFollows pid rest → FitsSigned w64 pid → number_at 0 rest ≡ pid
unfolding number_at
pid_said pid rest h fits = grind (arith, common_steps, number_in, number_in-zero, number_in-spelled)

-- what the words of a lock command say is what they were written of
lock_said : (name : List ℕ) (fd : ℕ) (lock : Lock) (rest : List (List ℕ)) → PidFollows lock.pid rest
    → FitsSigned w64 lock.start → FitsSigned w64 lock.len → FitsSigned w64 lock.pid → lock_in (name ∷ (lock_words fd lock ++ rest)) ≡ lock
unfolding lock_in number_at
lock_said name fd lock rest follows start len pid = λ i. record {
  kind = kind_in-word lock.kind i;
  whence = whence_in-word lock.whence i;
  start = number_in-spelled lock.start start i;
  len = number_in-spelled lock.len len i;
  pid = pid_said lock.pid rest follows pid i;
}

-- a request in which no pid of 0 may be written has just its words
has_words : (words : List (List ℕ)) (request : Request) → (HasZeroPid request → ⊥) → Says words request → words ≡ request_words request
has_words words request none h2 = grind (arith, common_steps)

pub small_process : (limits : Limits) (p : ℕ) → IsProcess limits p → p < 2 ^ 64
small_process Small p is = omega (arith, is.1)
small_process Wide p is = omega (arith, is.1)

-- the words of a request say that request
said_is : (limits : Limits) (words : List (List ℕ)) (request : Request) → Says words request → IsWritable limits request → said words ≡ request
unfolding said natural_at number_at
said_is limits words (OpenFile file access) says fits =
    let number = digits_value-spelled file (omega (arith, fits)) in
    ap said (has_words words (OpenFile file access) (λ zero. zero) says) ∙ (λ i. OpenFile (number i) (access_in-word access i))
said_is limits words (Dup fd) says fits = ap said (has_words words (Dup fd) (λ zero. zero) says) ∙ ap Dup (digits_value-spelled fd (omega (arith, fits)))
said_is limits words (DupTo fd to) says fits =
    let from = digits_value-spelled fd (omega (arith, fits.0)) in
    let onto = digits_value-spelled to (omega (arith, fits.1)) in
    ap said (has_words words (DupTo fd to) (λ zero. zero) says) ∙ (λ i. DupTo (from i) (onto i))
said_is limits words (CloseFd fd) says fits = ap said (has_words words (CloseFd fd) (λ zero. zero) says) ∙ ap CloseFd (digits_value-spelled fd (omega (arith, fits)))
said_is limits words (Seek fd offset) says fits =
    let number = digits_value-spelled fd (omega (arith, fits.0)) in
    ap said (has_words words (Seek fd offset) (λ zero. zero) says) ∙ (λ i. Seek (number i) (number_in-spelled offset fits.1 i))
said_is limits words (Resize fd size) says fits =
    let number = digits_value-spelled fd (omega (arith, fits.0)) in
    ap said (has_words words (Resize fd size) (λ zero. zero) says) ∙ (λ i. Resize (number i) (number_in-spelled size fits.1 i))
said_is limits words (Lk fd cmd lock) says fits =
    let spelled = SaysLock-from_says words fd cmd lock says in
    let number = digits_value-spelled fd (omega (arith, fits.0)) in
    let described = lock_said (lock_command_word cmd) fd lock spelled.rest spelled.follows fits.1 fits.2 fits.3 in
    ap said spelled.are ∙ (said_lock cmd (lock_words fd lock ++ spelled.rest) ∙ (λ i. Lk (number i) cmd (described i)))
said_is limits words (Flock fd op nb) says fits =
    let number = digits_value-spelled fd (omega (arith, fits)) in
    ap said (has_words words (Flock fd op nb) (λ zero. zero) says) ∙ (λ i. Flock (number i) (op_in-word op i) (nb_in-words nb i))
said_is limits words (Fork child) says fits = ap said (has_words words (Fork child) (λ zero. zero) says) ∙ ap Fork (digits_value-spelled child (small_process limits child fits))
said_is limits words Exit says fits = ap said (has_words words Exit (λ zero. zero) says)
said_is limits words (Signal target) says fits = ap said (has_words words (Signal target) (λ zero. zero) says) ∙ ap Signal (digits_value-spelled target (small_process limits target fits))
said_is limits words (Kill target) says fits = ap said (has_words words (Kill target) (λ zero. zero) says) ∙ ap Kill (digits_value-spelled target (small_process limits target fits))
said_is limits words (Enter section visit) says fits =
    let number = digits_value-spelled section (omega (arith, fits)) in
    ap said (has_words words (Enter section visit) (λ zero. zero) says) ∙ (λ i. Enter (number i) (visit_written-words visit i))
said_is limits words (Leave section) says fits = ap said (has_words words (Leave section) (λ zero. zero) says) ∙ ap Leave (digits_value-spelled section (omega (arith, fits)))
said_is limits words Bail says fits = ap said (has_words words Bail (λ zero. zero) says)

-- the words of a request say one request
IsRequest-unique : (limits : Limits) (words : List (List ℕ)) (a b : Request) → IsRequest limits words a → IsRequest limits words b → a ≡ b
IsRequest-unique limits words a b first second =
    sym (said_is limits words a first.says first.writable) ∙ said_is limits words b second.says second.writable

-- each word spells the argument of its place
unfoldable pub AllSpell : List Argument → List (List ℕ) → Type 0
AllSpell arguments [] = Unit {0}
AllSpell [] (word ∷ words) = Unit {0}
AllSpell (argument ∷ arguments) (word ∷ words) = Spells argument word × AllSpell arguments words

-- where each word spells its argument, none is the first bad one
pub not_bad : (arguments : List Argument) (words : List (List ℕ)) (cause : Cause) → AllSpell arguments words → IsFirstBad arguments words cause → ⊥
unfolding AllSpell
not_bad [] words cause all bad = bad
not_bad (argument ∷ arguments) [] cause all bad = bad
not_bad (argument ∷ arguments) (word ∷ words) cause all (inl bad) = not_bad arguments words cause all.1 bad.1
not_bad (argument ∷ arguments) (word ∷ words) cause all (inr bad) = bad.0 all.0

pid_spelled : (pid : ℤ) (rest : List (List ℕ)) → PidFollows pid rest → FitsSigned w64 pid → AllSpell (AnyNumber ∷ []) rest
unfolding AllSpell
pid_spelled pid rest h fits = grind (arith, common_steps)

nb_spelled : (nb : Bool) → AllSpell (NbWord ∷ []) (nb_words nb)
unfolding AllSpell
nb_spelled nb = grind (arith, common_steps)

visit_spelled : (visit : Visit) → AllSpell (SharedWord ∷ []) (visit_words visit)
unfolding AllSpell
visit_spelled visit = grind (arith, common_steps)

command_is : (command known : Command) → Some known ≡ Some command → known ≡ command
command_is command known e = ap (λ o. unwrap_or o known) e

-- what it makes of its arguments is what the request is
pub lock_gives : (limits : Limits) (command : CommandName) (cmd : LkCmd) (arguments : List (List ℕ)) (result : Result Request Cause)
    → command ≡ names.Lock cmd
    → CommandGives limits (lock_command_word cmd ∷ arguments) (lock_command (lock_command_word cmd)) arguments result
    → RequestGives limits (command_word command ∷ arguments) result
lock_gives limits command cmd arguments result is gives = search (rules)

-- the arguments that the command of a request may have
arguments_of : Limits → Request → List Argument
arguments_of limits (OpenFile file access) = FileNumber ∷ AccessWord ∷ []
arguments_of limits (Dup fd) = DescriptorNumber ∷ []
arguments_of limits (DupTo fd to) = DescriptorNumber ∷ DescriptorNumber ∷ []
arguments_of limits (CloseFd fd) = DescriptorNumber ∷ []
arguments_of limits (Seek fd offset) = DescriptorNumber ∷ AnyNumber ∷ []
arguments_of limits (Resize fd size) = DescriptorNumber ∷ AnyNumber ∷ []
arguments_of limits (Lk fd cmd lock) = lock_arguments ++ AnyNumber ∷ []
arguments_of limits (Flock fd op nb) = DescriptorNumber ∷ OpWord ∷ NbWord ∷ []
arguments_of limits (Fork child) = ProcessNumber limits ∷ []
arguments_of limits Exit = []
arguments_of limits (Signal target) = ProcessNumber limits ∷ []
arguments_of limits (Kill target) = ProcessNumber limits ∷ []
arguments_of limits (Enter section visit) = SectionNumber ∷ SharedWord ∷ []
arguments_of limits (Leave section) = SectionNumber ∷ []
arguments_of limits Bail = []

-- the first of the words is a command with these arguments
abbrev Names : Limits → List Argument → List (List ℕ) → Type 0
Names limits arguments words = (command : Command) → command_named limits (get_or words 0 []) ≡ Some command → arguments ≡ command.required ++ command.optional

names_by : (limits : Limits) (known : Command) (words : List (List ℕ)) → command_named limits (get_or words 0 []) ≡ Some known
    → Names limits (known.required ++ known.optional) words
names_by limits known words named = λ command found. ap (λ (c : Command). c.required ++ c.optional) (command_is command known (sym named ∙ found))

request_named : (limits : Limits) (words : List (List ℕ)) (request : Request) → Says words request → Names limits (arguments_of limits request) words
unfolding arguments_of
request_named limits words request h = search (rules, names_by, has_words, SaysLock-from_says)

spells_so : (arguments : List Argument) (words : List (List ℕ)) (request : Request) → (HasZeroPid request → ⊥) → Says words request
    → AllSpell arguments (drop 1 (request_words request)) → AllSpell arguments (drop 1 words)
spells_so arguments words request none says all = grind (arith, common_steps, has_words)

-- the words behind the name of a request spell its arguments
request_spelled : (limits : Limits) (words : List (List ℕ)) (request : Request) → Says words request → IsWritable limits request
    → AllSpell (arguments_of limits request) (drop 1 words)
unfolding arguments_of AllSpell
request_spelled limits words (OpenFile file access) says fits = spells_so (FileNumber ∷ AccessWord ∷ []) words (OpenFile file access) (λ zero. zero) says ((file, fits, refl), ((access, refl), tt))
request_spelled limits words (Dup fd) says fits = spells_so (DescriptorNumber ∷ []) words (Dup fd) (λ zero. zero) says ((fd, fits, refl), tt)
request_spelled limits words (DupTo fd to) says fits = spells_so (DescriptorNumber ∷ DescriptorNumber ∷ []) words (DupTo fd to) (λ zero. zero) says ((fd, fits.0, refl), ((to, fits.1, refl), tt))
request_spelled limits words (CloseFd fd) says fits = spells_so (DescriptorNumber ∷ []) words (CloseFd fd) (λ zero. zero) says ((fd, fits, refl), tt)
request_spelled limits words (Seek fd offset) says fits = spells_so (DescriptorNumber ∷ AnyNumber ∷ []) words (Seek fd offset) (λ zero. zero) says ((fd, fits.0, refl), ((offset, fits.1, refl), tt))
request_spelled limits words (Resize fd size) says fits = spells_so (DescriptorNumber ∷ AnyNumber ∷ []) words (Resize fd size) (λ zero. zero) says ((fd, fits.0, refl), ((size, fits.1, refl), tt))
request_spelled limits words (Lk fd cmd lock) says fits =
    let spelled = SaysLock-from_says words fd cmd lock says in
    let pid = pid_spelled lock.pid spelled.rest spelled.follows fits.3 in
    subst (λ ws. AllSpell (lock_arguments ++ AnyNumber ∷ []) (drop 1 ws)) (sym spelled.are)
    ((fd, fits.0, refl), ((lock.kind, refl), ((lock.whence, refl), ((lock.start, fits.1, refl), ((lock.len, fits.2, refl), pid)))))
request_spelled limits words (Flock fd op nb) says fits = grind (arith, common_steps, spells_so, nb_spelled)
request_spelled limits words (Fork child) says fits = spells_so (ProcessNumber limits ∷ []) words (Fork child) (λ zero. zero) says ((child, fits.0, fits.1, refl), tt)
request_spelled limits words Exit says fits = spells_so [] words Exit (λ zero. zero) says tt
request_spelled limits words (Signal target) says fits = spells_so (ProcessNumber limits ∷ []) words (Signal target) (λ zero. zero) says ((target, fits.0, fits.1, refl), tt)
request_spelled limits words (Kill target) says fits = spells_so (ProcessNumber limits ∷ []) words (Kill target) (λ zero. zero) says ((target, fits.0, fits.1, refl), tt)
request_spelled limits words (Enter section visit) says fits =
    spells_so (SectionNumber ∷ SharedWord ∷ []) words (Enter section visit) (λ zero. zero) says ((section, fits, refl), visit_spelled visit)
request_spelled limits words (Leave section) says fits = spells_so (SectionNumber ∷ []) words (Leave section) (λ zero. zero) says ((section, fits, refl), tt)
request_spelled limits words Bail says fits = spells_so [] words Bail (λ zero. zero) says tt

-- where the words are a request, no argument is bad
no_bad : (limits : Limits) (name : List ℕ) (arguments : List (List ℕ)) (command : Command) (request : Request) (cause : Cause)
    → command_named limits name ≡ Some command
    → IsRequest limits (name ∷ arguments) request → IsFirstBad (command.required ++ command.optional) arguments cause → ⊥
no_bad limits name arguments command request cause named is bad =
    let same = request_named limits (name ∷ arguments) request is.says command named in
    let all = subst (λ expected. AllSpell expected arguments) same (request_spelled limits (name ∷ arguments) request is.says is.writable) in
    not_bad (command.required ++ command.optional) arguments cause all bad

ArgumentsGive-unique : (limits : Limits) (name : List ℕ) (arguments : List (List ℕ)) (command : Command) → command_named limits name ≡ Some command
    → (a b : Result Request Cause) → ArgumentsGive limits (name ∷ arguments) command arguments a
    → ArgumentsGive limits (name ∷ arguments) command arguments b → a ≡ b
ArgumentsGive-unique limits name arguments command named a b (inl first) (inl second) =
    first.2 ∙ (ap Err (IsFirstBad-unique (command.required ++ command.optional) arguments first.0 second.0 first.1 second.1) ∙ sym second.2)
ArgumentsGive-unique limits name arguments command named a b (inl first) (inr second) = absurd (no_bad limits name arguments command second.0 first.0 named second.1 first.1)
ArgumentsGive-unique limits name arguments command named a b (inr first) (inl second) = absurd (no_bad limits name arguments command first.0 second.0 named first.1 second.1)
ArgumentsGive-unique limits name arguments command named a b (inr first) (inr second) =
    first.2 ∙ (ap Ok (IsRequest-unique limits (name ∷ arguments) first.0 second.0 first.1 second.1) ∙ sym second.2)

named_unique : (limits : Limits) (name : List ℕ) (arguments : List (List ℕ)) (found : Option Command) → command_named limits name ≡ found
    → (a b : Result Request Cause)
    → MatchOption found (a ≡ Err Word) (λ command. CommandGives limits (name ∷ arguments) command arguments a)
    → MatchOption found (b ≡ Err Word) (λ command. CommandGives limits (name ∷ arguments) command arguments b) → a ≡ b
named_unique limits name arguments None named a b first second = same_value (Err Word) a b first second
named_unique limits name arguments (Some command) named a b first second =
    MatchBool-unique (λ result. ArgumentsGive limits (name ∷ arguments) command arguments result) (λ result. result ≡ Err Count) (has_count command (length arguments))
    (ArgumentsGive-unique limits name arguments command named) (same_value (Err Count)) a b first second

pub RequestGives-unique : (limits : Limits) (words : List (List ℕ)) (a b : Result Request Cause) → RequestGives limits words a
    → RequestGives limits words b → a ≡ b
RequestGives-unique limits [] a b first second = same_value (Err Count) a b first second
RequestGives-unique limits (name ∷ arguments) a b first second = named_unique limits name arguments (command_named limits name) refl a b first second

ArrivalGives-unique : (p : ℕ) (next : Result Request Cause) (a b : Result Line Cause) → ArrivalGives p next a → ArrivalGives p next b → a ≡ b
ArrivalGives-unique p next a b first second = grind (arith, common_steps)

ProcessGives-unique : (limits : Limits) (word : List ℕ) (rest : List (List ℕ)) (a b : Result Line Cause) → ProcessGives limits word rest a
    → ProcessGives limits word rest b → a ≡ b
ProcessGives-unique limits word rest a b h h2 = search (rules, decimal_injective, small_process, RequestGives-unique, ArrivalGives-unique)

-- words that are refused have one cause
pub AreRefused-unique : (arguments : List Argument) (words : List (List ℕ)) (a b : Cause) → AreRefused arguments words a → AreRefused arguments words b → a ≡ b
AreRefused-unique arguments words a b first second = grind (arith, common_steps, MatchBool-unique, IsFirstBad-unique, same_value)

-- one word that spells its argument isn't refused
one_spelled : (argument : Argument) (word : List ℕ) (words : List (List ℕ)) (cause : Cause) → words ≡ word ∷ [] → Spells argument word
    → AreRefused (argument ∷ []) words cause → ⊥
unfolding AllSpell
one_spelled argument word words cause are spells refused = grind (arith, common_steps, not_bad)

-- the word of a policy, or of limits, read back
policy_in : List ℕ → Policy
policy_in word = cond (bytes_eq word (codes "held")) Held Queue

limits_in : List ℕ → Limits
limits_in word = cond (bytes_eq word (codes "small")) Small Wide

policy_in-word : (policy : Policy) → policy_in (policy_word policy) ≡ policy
unfolding policy_in
policy_in-word policy = grind (arith, common_steps)

limits_in-word : (limits : Limits) → limits_in (limits_word limits) ≡ limits
unfolding limits_in
limits_in-word limits = grind (arith, common_steps)

ValueGives-unique : {A B : Type 0} (argument : Argument) (word : A → List ℕ) (says : A → B) (read : List ℕ → A)
    → ((value : A) → read (word value) ≡ value) → ((value : A) → Spells argument (word value))
    → (words : List (List ℕ)) (a b : Result B Cause) → ValueGives argument word says words a → ValueGives argument word says words b → a ≡ b
ValueGives-unique argument word says read h h2 words a b h3 h4 = grind (arith, common_steps, AreRefused-unique, one_spelled)

-- a header line says one thing, and so does any line where others do
pub HeaderGives-unique : {B : Type 0} (header : Header) (at_top : Bool) (says : Header → B) (word : List ℕ) (rest : List (List ℕ)) (P : Result B Cause → Type 0)
    → ((a b : Result B Cause) → P a → P b → a ≡ b) → (a b : Result B Cause)
    → HeaderGives header at_top says word rest (P a) a → HeaderGives header at_top says word rest (P b) b → a ≡ b
HeaderGives-unique {B} header at_top says word rest P one a b first second =
    let by_policy : Policy → B = λ policy. says (record header { policy = Some policy }) in
    let by_limits : Limits → B = λ limits. says (record header { limits = Some limits }) in
    MatchBool-unique (ValueGives PolicyWord policy_word by_policy rest) _ (says_policy header at_top word)
    (ValueGives-unique PolicyWord policy_word by_policy policy_in policy_in-word (λ policy. (policy, refl)) rest)
    (MatchBool-unique (ValueGives LimitsWord limits_word by_limits rest) P (says_limits header at_top word)
    (ValueGives-unique LimitsWord limits_word by_limits limits_in limits_in-word (λ limits. (limits, refl)) rest) one) a b first second

WordsGive-unique : (reading : Reading) (words : List (List ℕ)) (a b : Result Line Cause) → WordsGive reading words a → WordsGive reading words b → a ≡ b
WordsGive-unique reading [] a b first second = same_value (Ok lines.Skipped) a b first second
WordsGive-unique reading (word ∷ rest) a b first second =
    MatchBool-unique (λ r. r ≡ Ok lines.Skipped) _ (is_comment word) (same_value (Ok lines.Skipped))
    (HeaderGives-unique reading.header (is_empty reading.arrivals) lines.Header word rest (ProcessGives (limits_of reading) word rest)
    (ProcessGives-unique (limits_of reading) word rest)) a b first second

LineGives-unique : (reading : Reading) (line : List ℕ) (a b : Result Line Cause) → LineGives reading line a → LineGives reading line b → a ≡ b
LineGives-unique reading line a b first second =
    MatchBool-unique (λ result. result ≡ Err TooLong) (λ result. MatchBool (is_printable line) (WordsGive reading (words_of line) result) (result ≡ Err Byte)) (nat_lt line_limit (length line))
    (same_value (Err TooLong))
    (MatchBool-unique (WordsGive reading (words_of line)) (λ result. result ≡ Err Byte) (is_printable line) (WordsGive-unique reading (words_of line)) (same_value (Err Byte)))
    a b first second

-- what comes after a line
after_unique : (number : ℕ) (reading : Reading) (rest : List (List ℕ))
    → ((after : Reading) (a b : Result Meaning ScriptFault) → LinesGive (number + 1) after rest a → LinesGive (number + 1) after rest b → a ≡ b)
    → (next : Result Line Cause) (a b : Result Meaning ScriptFault)
    → MatchResult next (λ said. LinesGive (number + 1) (reading_after reading said) rest a) (λ cause. a ≡ Err (record { line = number; cause = cause }))
    → MatchResult next (λ said. LinesGive (number + 1) (reading_after reading said) rest b) (λ cause. b ≡ Err (record { line = number; cause = cause })) → a ≡ b
after_unique number reading rest later next a b first second = grind (arith, common_steps, said)

LinesGive-unique : (number : ℕ) (reading : Reading) (rest : List (List ℕ)) (a b : Result Meaning ScriptFault) → LinesGive number reading rest a
    → LinesGive number reading rest b → a ≡ b
LinesGive-unique number reading [] a b first second = same_value (Ok (meaning_of reading)) a b first second
LinesGive-unique number reading (line ∷ rest) a b first second =
    let next : first.0 ≡ second.0 = LineGives-unique reading line first.0 second.0 first.1 second.1 in
    after_unique number reading rest (λ after. LinesGive-unique (number + 1) after rest) second.0 a b
    (subst (λ next. MatchResult next (λ said. LinesGive (number + 1) (reading_after reading said) rest a) (λ cause. a ≡ Err (record { line = number; cause = cause }))) next first.2) second.2

-- two readings of the same bytes are equal
pub one_reading : (bytes : List ℕ) → HasOneReading bytes
one_reading bytes = search (rules, MatchBool-unique, same_value, LinesGive-unique)
