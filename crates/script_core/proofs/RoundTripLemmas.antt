-- The text of a request, behind its process and a space, is a line that says it: for `write_entry`.
use Rattle.script_core.proofs.Common.{common_steps, ◌≡◌, ℕ, zero, suc, ◌+◌, ◌^◌, ◌<◌, ◌≤◌, ◌==◌, Bool, nat_le, nat_lt, true, false, not, ◌&&◌, List, [], ◌∷◌, ◌++◌, length, get_or, filter, codes, decimal, ℤ, pos, FitsSigned, w64, Ok, inl, refl, arith, lit<, lit≤, length-append, append_assoc, signed_decimal, list_all, slice_split, join_with_byte, decimal_is_IsNumeral, length-decimal-le, le-ltb, nat_tests}
use Rattle.script_core.proofs.Common.{Access, LkCmd, GetLk, SetLk, SetLkW, OGetLk, OSetLk, OSetLkW, Limits, FlockOp, Sh, Ex, Un, Request, OpenFile, Dup, DupTo, CloseFd, Seek, Resize, Lk, Flock, Fork, Exit, Signal, Kill, Enter, Leave, Bail, Visit, Kind, Whence, words_of, is_printable, line_limit, access_word, kind_word, whence_word, op_word, nb_words, visit_words, lock_command_word, pid_words, request_words, request_text, IsProcess, IsWritable, Line, Reading, RequestGives, WordsGive, LineGives, is_comment, limits_of}
use Rattle.std.proofs.Common.{negsuc, tests}
use Rattle.std.specs.Str.Parse.{AllDigits}
use Rattle.std.proofs.lemmas.Fmt.{length_signed_le}
use Rattle.std.proofs.lemmas.Str.Parse.{digit_from_value}
use Rattle.fd_table.specs.declared.Access.TheVariants.{R, W, Rw}
use Rattle.lock_manager.specs.declared.request.Visit.TheVariants.{Sole, Shared}
use Rattle.range_core.specs.declared.Kind.TheVariants.{Read, Write, Unlock}
use Rattle.range_core.specs.declared.Whence.TheVariants.{Set, Cur, End}
use Rattle.script_core.specs.ScriptText.{IsDescriptor}
use Rattle.script_core.specs.declared.line.Line.TheVariants as lines
use Rattle.script_core.specs.Reading.{IsReadBack}
use Rattle.script_core.proofs.NumberLemmas.{BeginsPlainly-decimal}
use Rattle.script_core.proofs.ReadingLemmas.{small_process}
use Rattle.script_core.proofs.HeaderLemmas.{IsNoHeaderWord-decimal}

-- each byte is one that the words of a text have: printable, no space, and none behind the letters
unfoldable pub AreVisible : List ℕ → Type 0
AreVisible [] = Unit {0}
AreVisible (byte ∷ bytes) = (33 ≤ byte) × (byte ≤ 122) × AreVisible bytes

-- one visible byte or more
pub record IsWord (word : List ℕ) : Type 0 where
  pub some : 0 < length word
  pub visible : AreVisible word

unfoldable pub AreWords : List (List ℕ) → Type 0
AreWords [] = Unit {0}
AreWords (word ∷ words) = IsWord word × AreWords words

-- whether the bytes are a word
abbrev is_word : List ℕ → Bool
is_word word = nat_lt 0 (length word) && list_all (λ byte. nat_le 33 byte && nat_le byte 122) word

AreVisible-tested : (bytes : List ℕ) → list_all (λ byte. nat_le 33 byte && nat_le byte 122) bytes ≡ true → AreVisible bytes
unfolding AreVisible
AreVisible-tested [] tested = tt
AreVisible-tested (byte ∷ bytes) tested = grind (arith, common_steps, AreVisible-tested bytes)

pub IsWord-tested : (word : List ℕ) → is_word word ≡ true → IsWord word
IsWord-tested word tested = record { some = grind (arith, tests); visible = AreVisible-tested word (grind (arith, tests)) }

AreVisible-digits : (bytes : List ℕ) → AllDigits 10 bytes → AreVisible bytes
unfolding AreVisible
AreVisible-digits [] digits = tt
AreVisible-digits (byte ∷ bytes) digits = grind (arith, common_steps, digit_from_value, AreVisible-digits bytes)

pub IsWord-decimal : (n : ℕ) → n < 2 ^ 64 → IsWord (decimal n)
IsWord-decimal n small =
    let numeral = (decimal_is_IsNumeral n small).0 in
    record { some = numeral.0; visible = AreVisible-digits (decimal n) numeral.1 }

IsWord-minus : (word : List ℕ) → IsWord word → IsWord (45 ∷ word)
unfolding AreVisible
IsWord-minus word is = record { some = omega arith; visible = (lit≤ tt, lit≤ tt, is.visible) }

pub IsWord-signed_decimal : (z : ℤ) → FitsSigned w64 z → IsWord (signed_decimal z)
IsWord-signed_decimal (pos n) fits = IsWord-decimal n (omega (arith, fits.sfits))
IsWord-signed_decimal (negsuc n) fits = IsWord-minus (decimal (suc n)) (IsWord-decimal (suc n) (omega (arith, fits.sfits)))

pub IsWord-descriptor : (fd : ℕ) → IsDescriptor fd → IsWord (decimal fd)
IsWord-descriptor fd small = IsWord-decimal fd (omega (arith, small))

pub IsWord-process : (limits : Limits) (p : ℕ) → IsProcess limits p → IsWord (decimal p)
IsWord-process limits p is = IsWord-decimal p (small_process limits p is)

not_space : (byte : ℕ) → 33 ≤ byte → (byte == 32) ≡ false
not_space byte visible = grind (arith, nat_tests)

slice_split-word : (word : List ℕ) → AreVisible word → slice_split (λ byte. byte == 32) word ≡ word ∷ []
unfolding AreVisible
slice_split-word [] visible = refl
slice_split-word (byte ∷ bytes) visible = rw (not_space byte visible.0, slice_split-word bytes visible.2) refl

pub slice_split-words : (word rest : List ℕ) → AreVisible word
    → slice_split (λ byte. byte == 32) (word ++ 32 ∷ rest) ≡ word ∷ slice_split (λ byte. byte == 32) rest
unfolding AreVisible
slice_split-words [] rest visible = refl
slice_split-words (byte ∷ bytes) rest visible = rw (not_space byte visible.0, slice_split-words bytes rest visible.2) refl

slice_split-join : (word : List ℕ) (words : List (List ℕ)) → AreWords (word ∷ words)
    → slice_split (λ byte. byte == 32) (join_with_byte 32 (word ∷ words)) ≡ word ∷ words
unfolding AreWords
slice_split-join word [] are = slice_split-word word are.0.visible
slice_split-join word (next ∷ words) are = grind (arith, common_steps, slice_split-words, slice_split-join next words)

pub not_empty : (n : ℕ) → 0 < n → not (n == 0) ≡ true
not_empty n some = grind (arith, nat_tests)

filter-words : (words : List (List ℕ)) → AreWords words → filter (λ word. not (length word == 0)) words ≡ words
unfolding AreWords
filter-words [] are = refl
filter-words (word ∷ words) are = rw (not_empty (length word) are.0.some, filter-words words are.1) refl

-- words with one space between each two are the words of their line
pub words_of-join : (word : List ℕ) (words : List (List ℕ)) → AreWords (word ∷ words) → words_of (join_with_byte 32 (word ∷ words)) ≡ word ∷ words
words_of-join word words are = grind (arith, common_steps, slice_split-join, filter-words)

printable_byte : (byte : ℕ) → 33 ≤ byte → byte ≤ 122 → (nat_le 32 byte && nat_le byte 126) ≡ true
printable_byte byte low high = grind (arith, nat_tests)

is_printable-word : (word : List ℕ) → AreVisible word → is_printable word ≡ true
unfolding AreVisible
is_printable-word [] visible = refl
is_printable-word (byte ∷ bytes) visible = rw (printable_byte byte visible.0 visible.1) (is_printable-word bytes visible.2)

is_printable-words : (word rest : List ℕ) → AreVisible word → is_printable rest ≡ true → is_printable (word ++ 32 ∷ rest) ≡ true
unfolding AreVisible
is_printable-words [] rest visible printable = printable
is_printable-words (byte ∷ bytes) rest visible printable = rw (printable_byte byte visible.0 visible.1) (is_printable-words bytes rest visible.2 printable)

pub is_printable-join : (word : List ℕ) (words : List (List ℕ)) → AreWords (word ∷ words) → is_printable (join_with_byte 32 (word ∷ words)) ≡ true
unfolding AreWords
is_printable-join word [] are = is_printable-word word are.0.visible
is_printable-join word (next ∷ words) are = is_printable-words word (join_with_byte 32 (next ∷ words)) are.0.visible (is_printable-join next words are.1)

-- how many bytes further words take, each behind its space
unfoldable pub more_length : List (List ℕ) → ℕ
more_length [] = 0
more_length (word ∷ words) = 1 + length word + more_length words

pub length-join : (word : List ℕ) (words : List (List ℕ)) → length (join_with_byte 32 (word ∷ words)) ≡ length word + more_length words
unfolding more_length
length-join word [] = omega arith
length-join word (next ∷ words) = omega (arith, length-append word (32 ∷ join_with_byte 32 (next ∷ words)), length-join next words)

is_comment-digit : (word : List ℕ) → 48 ≤ get_or word 0 0 → is_comment word ≡ false
is_comment-digit word low = grind (arith, common_steps, nat_tests)

IsWord-access_word : (access : Access) → IsWord (access_word access)
IsWord-access_word R = IsWord-tested (access_word R) refl
IsWord-access_word W = IsWord-tested (access_word W) refl
IsWord-access_word Rw = IsWord-tested (access_word Rw) refl

IsWord-kind_word : (kind : Kind) → IsWord (kind_word kind)
IsWord-kind_word Read = IsWord-tested (kind_word Read) refl
IsWord-kind_word Write = IsWord-tested (kind_word Write) refl
IsWord-kind_word Unlock = IsWord-tested (kind_word Unlock) refl

IsWord-whence_word : (whence : Whence) → IsWord (whence_word whence)
IsWord-whence_word Set = IsWord-tested (whence_word Set) refl
IsWord-whence_word Cur = IsWord-tested (whence_word Cur) refl
IsWord-whence_word End = IsWord-tested (whence_word End) refl

IsWord-op_word : (op : FlockOp) → IsWord (op_word op)
IsWord-op_word Sh = IsWord-tested (op_word Sh) refl
IsWord-op_word Ex = IsWord-tested (op_word Ex) refl
IsWord-op_word Un = IsWord-tested (op_word Un) refl

IsWord-lock_command_word : (cmd : LkCmd) → IsWord (lock_command_word cmd)
IsWord-lock_command_word GetLk = IsWord-tested (lock_command_word GetLk) refl
IsWord-lock_command_word SetLk = IsWord-tested (lock_command_word SetLk) refl
IsWord-lock_command_word SetLkW = IsWord-tested (lock_command_word SetLkW) refl
IsWord-lock_command_word OGetLk = IsWord-tested (lock_command_word OGetLk) refl
IsWord-lock_command_word OSetLk = IsWord-tested (lock_command_word OSetLk) refl
IsWord-lock_command_word OSetLkW = IsWord-tested (lock_command_word OSetLkW) refl

AreWords-pid_words : (z : ℤ) → FitsSigned w64 z → AreWords (pid_words z)
unfolding AreWords
AreWords-pid_words (pos zero) fits = tt
AreWords-pid_words (pos (suc n)) fits = (IsWord-signed_decimal (pos (suc n)) fits, tt)
AreWords-pid_words (negsuc n) fits = (IsWord-signed_decimal (negsuc n) fits, tt)

AreWords-nb_words : (nb : Bool) → AreWords (nb_words nb)
unfolding AreWords
AreWords-nb_words true = (IsWord-tested (codes "nb") refl, tt)
AreWords-nb_words false = tt

AreWords-visit_words : (visit : Visit) → AreWords (visit_words visit)
unfolding AreWords
AreWords-visit_words Shared = (IsWord-tested (codes "sh") refl, tt)
AreWords-visit_words Sole = tt

pub AreWords-request_words : (limits : Limits) (request : Request) → IsWritable limits request → AreWords (request_words request)
unfolding AreWords
AreWords-request_words limits (OpenFile file access) writable = (IsWord-tested (codes "open") refl, (IsWord-decimal file (omega (arith, writable)), (IsWord-access_word access, tt)))
AreWords-request_words limits (Dup fd) writable = (IsWord-tested (codes "dup") refl, (IsWord-descriptor fd writable, tt))
AreWords-request_words limits (DupTo fd to) writable = (IsWord-tested (codes "dup2") refl, (IsWord-descriptor fd writable.0, (IsWord-descriptor to writable.1, tt)))
AreWords-request_words limits (CloseFd fd) writable = (IsWord-tested (codes "close") refl, (IsWord-descriptor fd writable, tt))
AreWords-request_words limits (Seek fd offset) writable = (IsWord-tested (codes "seek") refl, (IsWord-descriptor fd writable.0, (IsWord-signed_decimal offset writable.1, tt)))
AreWords-request_words limits (Resize fd size) writable = (IsWord-tested (codes "resize") refl, (IsWord-descriptor fd writable.0, (IsWord-signed_decimal size writable.1, tt)))
AreWords-request_words limits (Flock fd op nb) writable = (IsWord-tested (codes "flock") refl, (IsWord-descriptor fd writable, (IsWord-op_word op, AreWords-nb_words nb)))
AreWords-request_words limits (Fork child) writable = (IsWord-tested (codes "fork") refl, (IsWord-process limits child writable, tt))
AreWords-request_words limits Exit writable = (IsWord-tested (codes "exit") refl, tt)
AreWords-request_words limits (Signal target) writable = (IsWord-tested (codes "signal") refl, (IsWord-process limits target writable, tt))
AreWords-request_words limits (Kill target) writable = (IsWord-tested (codes "kill") refl, (IsWord-process limits target writable, tt))
AreWords-request_words limits (Enter section visit) writable = (IsWord-tested (codes "enter") refl, (IsWord-decimal section (omega (arith, writable)), AreWords-visit_words visit))
AreWords-request_words limits (Leave section) writable = (IsWord-tested (codes "leave") refl, (IsWord-decimal section (omega (arith, writable)), tt))
AreWords-request_words limits Bail writable = (IsWord-tested (codes "bail") refl, tt)
AreWords-request_words limits (Lk fd cmd lock) writable = (
  IsWord-lock_command_word cmd,
  (
    IsWord-descriptor fd writable.0,
    (
      IsWord-kind_word lock.kind,
      (
        IsWord-whence_word lock.whence,
        (IsWord-signed_decimal lock.start writable.1, (IsWord-signed_decimal lock.len writable.2, AreWords-pid_words lock.pid writable.3)),
      ),
    ),
  ),
)

pub length-descriptor : (fd : ℕ) → IsDescriptor fd → length (decimal fd) ≤ 10
length-descriptor fd small = length-decimal-le 10 fd (lit< tt) (omega (arith, small)) (omega (arith, small))

pub length-process : (limits : Limits) (p : ℕ) → IsProcess limits p → length (decimal p) ≤ 2
length-process limits p is = grind (arith, common_steps, length-decimal-le)

pub length-signed_decimal : (z : ℤ) → FitsSigned w64 z → length (signed_decimal z) ≤ 20
length-signed_decimal z fits = length_signed_le 19 z (omega (arith, fits.sfits)) (omega (arith, fits.sfits))

more_length-pid_words : (z : ℤ) → FitsSigned w64 z → more_length (pid_words z) ≤ 21
unfolding more_length
more_length-pid_words (pos zero) fits = lit≤ tt
more_length-pid_words (pos (suc n)) fits = omega (arith, length-signed_decimal (pos (suc n)) fits)
more_length-pid_words (negsuc n) fits = omega (arith, length-signed_decimal (negsuc n) fits)

more_length-nb_words : (nb : Bool) → more_length (nb_words nb) ≤ 3
unfolding more_length
more_length-nb_words nb = grind (arith, common_steps)

more_length-visit_words : (visit : Visit) → more_length (visit_words visit) ≤ 3
unfolding more_length
more_length-visit_words visit = grind (arith, common_steps)

pub more_length-request_words : (limits : Limits) (request : Request) → IsWritable limits request → more_length (request_words request) ≤ 118
unfolding more_length
more_length-request_words limits request h =
    grind (arith, common_steps, length-decimal-le, length-descriptor, length-signed_decimal, more_length-nb_words, more_length-visit_words, length-process, more_length-pid_words)

pub gives_request : (limits : Limits) (request : Request) → IsWritable limits request → RequestGives limits (request_words request) (Ok request)
gives_request limits request h = grind (arith, common_steps)

reads_words : (reading : Reading) (p : ℕ) (words : List (List ℕ)) (request : Request) → IsProcess (limits_of reading) p
    → RequestGives (limits_of reading) words (Ok request)
    → WordsGive reading (decimal p ∷ words) (Ok (lines.Arrival p request))
reads_words reading p words request process gives =
    let small = small_process (limits_of reading) p process in
    let plain = BeginsPlainly-decimal p small in
    let none = IsNoHeaderWord-decimal p small in
    rw (is_comment-digit (decimal p) plain.at_least, none.0, none.1) (inl (p, process, refl, Ok request, gives, refl))

reads_line : (reading : Reading) (line : List ℕ) (words : List (List ℕ)) (said : Line) → length line ≤ line_limit → is_printable line ≡ true
    → words_of line ≡ words
    → WordsGive reading words (Ok said) → LineGives reading line (Ok said)
reads_line reading line words said short printable are gives = grind (arith, common_steps, le-ltb)

-- a word, a space and the text of a request are the words in one text
pub join_cons : (word : List ℕ) (request : Request) → word ++ codes " " ++ request_text request ≡ join_with_byte 32 (word ∷ request_words request)
join_cons word request = grind (arith, common_steps, append_assoc)

-- the text of a request, behind its process and a space, is a line that is read as this arrival
pub reads_back : (p : ℕ) (request : Request) → IsReadBack p request
unfolding AreWords
reads_back p request = λ reading process writable.
    let limits = limits_of reading in
    let words = request_words request in
    let are : AreWords (decimal p ∷ words) = (IsWord-process limits p process, AreWords-request_words limits request writable) in
    let short : length (join_with_byte 32 (decimal p ∷ words)) ≤ line_limit =
    omega (arith, length-join (decimal p) words, length-process limits p process, more_length-request_words limits request writable) in
    rw (join_cons (decimal p) request)
    (reads_line reading (join_with_byte 32 (decimal p ∷ words)) (decimal p ∷ words) (lines.Arrival p request) short (is_printable-join (decimal p) words are)
    (words_of-join (decimal p) words are) (reads_words reading p words request process (gives_request limits request writable)))
