-- What clap states of the program's command: for `options`.
use Rattle.std.proofs.Common.{◌≡◌, ◌≢◌, ◌∙◌, ap, ap₂, refl, Bool, true, false, ℕ, ◌==◌, ◌&&◌, ◌||◌, codes, List, [], ◌∷◌, Option, Some, None, Result, subst, sym, inl, inr, arith, if◌then◌else◌, is_some, length, option_and_then, option_map, IfOk, IsErr, Ok, Err}
use Rattle.std.proofs.lemmas.Bool.Decides.{eqb_tells}
use Rattle.clap.specs.Lexer.{long_of, long_of_rest, short_of, short_of_rest, strip_byte}
use Rattle.clap.specs.Walk.{Held, Row, Rule, Step, Waiting, Walk, after_step, finished, idle, long_or_other, nothing_held, option, plain_word, positional, reacted, settled, short_or_plain, subcommand_met, subcommand_or_other, trailing, value, walk, walked, word_met}
use Rattle.clap.specs.Simple.{Shape, entered, filled}
use Rattle.clap.specs.Kinds.{Kinds, or_else}
use Rattle.clap.specs.Faults.{bundle_fault, check_fault, defaults_fault, entered_fault, flag_word_fault, other_fault, settle_fault, step_fault, walk_fault, word_fault}
use Rattle.clap.specs.declared.error.kind.ErrorKind.{ErrorKind}
use Rattle.clap.specs.declared.error.kind.ErrorKind.TheVariants as kind
use Rattle.clap.proofs.OnLiterals.{clap_on_literals}
use Rattle.std.specs.Option.{option_map_or}
use Rattle.clap.specs.Words.{App, FailsBy, HasKind, HasMatchesOf, Text, built, fault_of, first_of, first_value, found_of, one_of, one_text, is_simple, is_simple_and_free, matches_of}
use Rattle.std.specs.Str.{bytes_eq}
use Rattle.clap.specs.declared.error.Error.{Error}
use Rattle.clap.specs.declared.parser.matches.ArgMatches.{ArgMatches}
use Rattle.clap.proofs.WalkLemmas.{first_value-rows, one_text-rows}
use Rattle.lockreplay.specs.CommandLine.{FollowsUsage, Asks, Flag, Threads, Explain, Check, IsGiven, IsPlain, command_line, fail_on_in, file_of, state_in, flag_in, flag_name, flag_rule, flag_word, has_flag, is_same_flag}
use Rattle.lockreplay.specs.declared.options.Options.{Options}

-- the first value of an argument, as FILE or the word behind --state, is that of the words
pub value_found : (stated : App) → is_simple stated ≡ true → (id : Text) (app : App) (words : List Text) (m : ArgMatches) → app ≡ stated
    → HasMatchesOf app words m → first_value (found_of m) id ≡ first_of id (matches_of stated words)
value_found stated simple id app words m is has =
    first_value-rows (found_of m) id ∙ ap (first_of id) ((has (ap is_simple is ∙ simple)).0 ∙ ap (λ a. matches_of a words) is)

-- the text of a flag is that of the words
pub flag_found : (stated : App) → is_simple stated ≡ true → (name : Text) (app : App) (words : List Text) (m : ArgMatches) → app ≡ stated
    → HasMatchesOf app words m → one_text (found_of m) name ≡ one_of name (matches_of stated words)
flag_found stated simple name app words m is has =
    one_text-rows (found_of m) name ∙ ap (one_of name) ((has (ap is_simple is ∙ simple)).0 ∙ ap (λ a. matches_of a words) is)

-- the words are refused by what clap states for the command
pub fails_as_stated : (stated : App) → is_simple_and_free stated ≡ true → (app : App) (words : List Text) (r : Result ArgMatches Error) → app ≡ stated
    → (is_simple_and_free app ≡ true → FailsBy (fault_of app words) r) → FailsBy (fault_of stated words) r
fails_as_stated stated free app words r is fails =
    subst (λ a. FailsBy (fault_of a words) r) is (fails (ap is_simple_and_free is ∙ free))

-- ---- words that begin with no hyphen

-- how a word is read that begins with no hyphen
record ReadsAsValue (word : Text) : Type 0 where
  dashes : bytes_eq word (45 ∷ 45 ∷ []) ≡ false
  long : long_of word ≡ None
  short : short_of word ≡ None

other_byte : (x : ℕ) → x ≢ 45 → (x == 45) ≡ false
other_byte x differs = elim (eqb_tells x 45) [
  | inl same ↦ absurd (differs same.1)
  | inr other ↦ other.0
]

plain_value : (word : Text) → IsPlain word → ReadsAsValue word
plain_value [] plain = record { dashes = refl; long = refl; short = refl }
plain_value (x ∷ xs) plain =
    let other = other_byte x (λ same. plain xs (ap (λ y. y ∷ xs) same)) in
    record {
      dashes = ap (λ b. b && bytes_eq xs (45 ∷ [])) other;
      long = ap (λ b. option_and_then long_of_rest (option_and_then (strip_byte 45) (if b then Some xs else None))) other;
      short = ap (λ b. option_and_then short_of_rest (if b then Some xs else None)) other;
    }

-- the arguments of the command as clap builds it: the flags, FILE and the help
abbrev arguments : List Rule
arguments = (built command_line).top.rules

-- the command has no subcommand, whatever waits for its value
no_subcommand : (waiting : Waiting) (word : Text) → subcommand_met [] waiting word ≡ None
no_subcommand idle word = refl
no_subcommand (option id) word = refl
no_subcommand positional word = refl

-- such a word is read as one that is no flag, whatever waits for its value
word_read : (waiting : Waiting) (h : Held) (position : ℕ) (word : Text) → ReadsAsValue word
    → word_met arguments [] false waiting position word h ≡ plain_word arguments waiting word h
word_read waiting h position word reads =
    ap (λ o. subcommand_or_other arguments o waiting position word h) (no_subcommand waiting word)
    ∙ ap (λ b. if b then (h, trailing position) else long_or_other arguments waiting word (long_of word) h) reads.dashes
    ∙ ap (λ o. long_or_other arguments waiting word o h) reads.long
    ∙ ap (λ o. short_or_plain arguments waiting word o h) reads.short

-- the walk between two words, where no option waits for its value
abbrev at : Held → ℕ → Walk
at h position = record { held = h; waiting = idle; position = position; is_trailing = false; stopped = None }

walked_value : (h : Held) (position : ℕ) (word : Text) → ReadsAsValue word
    → walked arguments [] (at h position) word ≡ after_step arguments word (at h position) h value
unfolding walked
walked_value h position word reads = ap (λ m. after_step arguments word (at h position) m.0 m.1) (word_read idle h position word reads)

-- the command as clap builds it
abbrev line : Shape
line = (built command_line).top

-- and it is refused only where no argument is left for it
word_passes : (waiting : Waiting) (h : Held) (word : Text) → ReadsAsValue word → word_fault line [] false waiting word h ≡ []
word_passes waiting h word reads =
    ap (λ o. other_fault line o word h) (no_subcommand waiting word)
    ∙ ap (λ b. if b then [] else flag_word_fault arguments line.args_override_self (long_of word) word h) reads.dashes
    ∙ ap (λ o. flag_word_fault arguments line.args_override_self o word h) reads.long
    ∙ ap (λ o. option_map_or (λ flags. bundle_fault arguments line.args_override_self flags h) o []) reads.short

walk_value : (h : Held) (position : ℕ) (word : Text) (rest : List Text) → ReadsAsValue word
    → walk_fault line [] (at h position) (word ∷ rest)
    ≡ or_else (step_fault line position h value) (walk_fault line [] (after_step arguments word (at h position) h value) rest)
unfolding walk_fault
walk_value h position word rest reads =
    ap₂ or_else
    (ap₂ or_else (word_passes idle h word reads) (ap (λ m. step_fault line position m.0 m.1) (word_read idle h position word reads)))
    (ap (λ w. walk_fault line [] w rest) (walked_value h position word reads))

-- ---- the command lines of such words

-- what stands behind --state and --fail-on, and the file
abbrev values_of : List Row → Option Text × Option Text × Option Text
values_of rows = (first_of (codes "state") rows, first_of (codes "fail-on") rows, first_of (codes "file") rows)

abbrev values_in : List Text → Option Text × Option Text × Option Text
values_in words = values_of (matches_of command_line words)

no_values : (name : Text) → values_in (name ∷ []) ≡ (None, None, None)
unfolding clap_on_literals
no_values name = refl

no_fault : (name : Text) → fault_of command_line (name ∷ []) ≡ []
unfolding clap_on_literals
no_fault name = refl

one_values : (name word : Text) → ReadsAsValue word → values_in (name ∷ word ∷ []) ≡ (None, None, Some word)
one_values name word reads = ap (λ w. values_of (finished arguments w.held)) (walked_value nothing_held 1 word reads)

-- what may fail behind the walk over the words
abbrev behind : Walk → Kinds
behind w =
    or_else (entered_fault (built command_line) w.stopped)
    (or_else (settle_fault arguments line.args_override_self w.held)
    (or_else (defaults_fault (settled arguments w.held).rows arguments)
    (check_fault line (finished arguments w.held) (is_some (entered (built command_line) w.stopped)))))

one_fault : (name word : Text) → ReadsAsValue word → fault_of command_line (name ∷ word ∷ []) ≡ []
unfolding clap_on_literals
one_fault name word reads = ap₂ (λ k w. or_else k (behind w)) (walk_value nothing_held 1 word [] reads) (walked_value nothing_held 1 word reads)

more_fault : (name first second : Text) (rest : List Text) → ReadsAsValue first → ReadsAsValue second
    → fault_of command_line (name ∷ first ∷ second ∷ rest) ≡ kind.UnknownArgument ∷ []
more_fault name first second rest reads_first reads_second =
    let after = after_step arguments first (at nothing_held 1) nothing_held value in
    ap (λ k. or_else k (behind (walk arguments [] nothing_held (first ∷ second ∷ rest))))
    (walk_value nothing_held 1 first (second ∷ rest) reads_first ∙ walk_value after.held 2 second rest reads_second)

-- ---- the flags

-- the text of a flag that is given, or isn't
abbrev flag_text : Bool → Text
flag_text true = codes "true"
flag_text false = codes "false"

-- without a flag
no_flag : (name : Text) (flag : Flag) → flag_in flag (name ∷ []) ≡ Some (codes "false")
unfolding clap_on_literals
no_flag name Threads = refl
no_flag name Explain = refl
no_flag name Check = refl

no_flag_one : (name word : Text) (flag : Flag) → ReadsAsValue word → flag_in flag (name ∷ word ∷ []) ≡ Some (codes "false")
unfolding clap_on_literals
no_flag_one name word Threads reads = ap (λ w. one_of (flag_name Threads) (finished arguments w.held)) (walked_value nothing_held 1 word reads)
no_flag_one name word Explain reads = ap (λ w. one_of (flag_name Explain) (finished arguments w.held)) (walked_value nothing_held 1 word reads)
no_flag_one name word Check reads = ap (λ w. one_of (flag_name Check) (finished arguments w.held)) (walked_value nothing_held 1 word reads)

-- with a flag alone
flag_values : (name : Text) (flag : Flag) → values_in (name ∷ flag_word flag ∷ []) ≡ (None, None, None)
unfolding clap_on_literals
flag_values name Threads = refl
flag_values name Explain = refl
flag_values name Check = refl

flag_told : (name : Text) (flag other : Flag) → flag_in other (name ∷ flag_word flag ∷ []) ≡ Some (flag_text (is_same_flag flag other))
unfolding clap_on_literals
flag_told name Threads Threads = refl
flag_told name Threads Explain = refl
flag_told name Threads Check = refl
flag_told name Explain Threads = refl
flag_told name Explain Explain = refl
flag_told name Explain Check = refl
flag_told name Check Threads = refl
flag_told name Check Explain = refl
flag_told name Check Check = refl

flag_fault : (name : Text) (flag : Flag) → fault_of command_line (name ∷ flag_word flag ∷ []) ≡ []
unfolding clap_on_literals
flag_fault name Threads = refl
flag_fault name Explain = refl
flag_fault name Check = refl

-- what is held behind a flag
abbrev flag_held : Flag → Held
flag_held flag = reacted arguments (filled (flag_rule (flag_name flag))) [] nothing_held

-- with a flag before a file
first_values : (name word : Text) (flag : Flag) → ReadsAsValue word → values_in (name ∷ flag_word flag ∷ word ∷ []) ≡ (None, None, Some word)
unfolding clap_on_literals
first_values name word Threads reads = ap (λ w. values_of (finished arguments w.held)) (walked_value (flag_held Threads) 1 word reads)
first_values name word Explain reads = ap (λ w. values_of (finished arguments w.held)) (walked_value (flag_held Explain) 1 word reads)
first_values name word Check reads = ap (λ w. values_of (finished arguments w.held)) (walked_value (flag_held Check) 1 word reads)

first_told : (name word : Text) (flag other : Flag) → ReadsAsValue word
    → flag_in other (name ∷ flag_word flag ∷ word ∷ []) ≡ Some (flag_text (is_same_flag flag other))
unfolding clap_on_literals
first_told name word Threads Threads reads = ap (λ w. one_of (flag_name Threads) (finished arguments w.held)) (walked_value (flag_held Threads) 1 word reads)
first_told name word Threads Explain reads = ap (λ w. one_of (flag_name Explain) (finished arguments w.held)) (walked_value (flag_held Threads) 1 word reads)
first_told name word Threads Check reads = ap (λ w. one_of (flag_name Check) (finished arguments w.held)) (walked_value (flag_held Threads) 1 word reads)
first_told name word Explain Threads reads = ap (λ w. one_of (flag_name Threads) (finished arguments w.held)) (walked_value (flag_held Explain) 1 word reads)
first_told name word Explain Explain reads = ap (λ w. one_of (flag_name Explain) (finished arguments w.held)) (walked_value (flag_held Explain) 1 word reads)
first_told name word Explain Check reads = ap (λ w. one_of (flag_name Check) (finished arguments w.held)) (walked_value (flag_held Explain) 1 word reads)
first_told name word Check Threads reads = ap (λ w. one_of (flag_name Threads) (finished arguments w.held)) (walked_value (flag_held Check) 1 word reads)
first_told name word Check Explain reads = ap (λ w. one_of (flag_name Explain) (finished arguments w.held)) (walked_value (flag_held Check) 1 word reads)
first_told name word Check Check reads = ap (λ w. one_of (flag_name Check) (finished arguments w.held)) (walked_value (flag_held Check) 1 word reads)

first_fault : (name word : Text) (flag : Flag) → ReadsAsValue word → fault_of command_line (name ∷ flag_word flag ∷ word ∷ []) ≡ []
unfolding clap_on_literals
first_fault name word Threads reads =
    ap₂ (λ k w. or_else k (behind w)) (walk_value (flag_held Threads) 1 word [] reads) (walked_value (flag_held Threads) 1 word reads)
first_fault name word Explain reads =
    ap₂ (λ k w. or_else k (behind w)) (walk_value (flag_held Explain) 1 word [] reads) (walked_value (flag_held Explain) 1 word reads)
first_fault name word Check reads =
    ap₂ (λ k w. or_else k (behind w)) (walk_value (flag_held Check) 1 word [] reads) (walked_value (flag_held Check) 1 word reads)

-- with a flag behind a file
last_values : (name word : Text) (flag : Flag) → ReadsAsValue word → values_in (name ∷ word ∷ flag_word flag ∷ []) ≡ (None, None, Some word)
unfolding clap_on_literals
last_values name word Threads reads =
    ap (λ w. values_of (finished arguments (walked arguments [] w (flag_word Threads)).held)) (walked_value nothing_held 1 word reads)
last_values name word Explain reads =
    ap (λ w. values_of (finished arguments (walked arguments [] w (flag_word Explain)).held)) (walked_value nothing_held 1 word reads)
last_values name word Check reads =
    ap (λ w. values_of (finished arguments (walked arguments [] w (flag_word Check)).held)) (walked_value nothing_held 1 word reads)

last_told : (name word : Text) (flag other : Flag) → ReadsAsValue word
    → flag_in other (name ∷ word ∷ flag_word flag ∷ []) ≡ Some (flag_text (is_same_flag flag other))
unfolding clap_on_literals
last_told name word Threads Threads reads =
    ap (λ w. one_of (flag_name Threads) (finished arguments (walked arguments [] w (flag_word Threads)).held)) (walked_value nothing_held 1 word reads)
last_told name word Threads Explain reads =
    ap (λ w. one_of (flag_name Explain) (finished arguments (walked arguments [] w (flag_word Threads)).held)) (walked_value nothing_held 1 word reads)
last_told name word Threads Check reads =
    ap (λ w. one_of (flag_name Check) (finished arguments (walked arguments [] w (flag_word Threads)).held)) (walked_value nothing_held 1 word reads)
last_told name word Explain Threads reads =
    ap (λ w. one_of (flag_name Threads) (finished arguments (walked arguments [] w (flag_word Explain)).held)) (walked_value nothing_held 1 word reads)
last_told name word Explain Explain reads =
    ap (λ w. one_of (flag_name Explain) (finished arguments (walked arguments [] w (flag_word Explain)).held)) (walked_value nothing_held 1 word reads)
last_told name word Explain Check reads =
    ap (λ w. one_of (flag_name Check) (finished arguments (walked arguments [] w (flag_word Explain)).held)) (walked_value nothing_held 1 word reads)
last_told name word Check Threads reads =
    ap (λ w. one_of (flag_name Threads) (finished arguments (walked arguments [] w (flag_word Check)).held)) (walked_value nothing_held 1 word reads)
last_told name word Check Explain reads =
    ap (λ w. one_of (flag_name Explain) (finished arguments (walked arguments [] w (flag_word Check)).held)) (walked_value nothing_held 1 word reads)
last_told name word Check Check reads =
    ap (λ w. one_of (flag_name Check) (finished arguments (walked arguments [] w (flag_word Check)).held)) (walked_value nothing_held 1 word reads)

last_fault : (name word : Text) (flag : Flag) → ReadsAsValue word → fault_of command_line (name ∷ word ∷ flag_word flag ∷ []) ≡ []
unfolding clap_on_literals
last_fault name word Threads reads =
    ap₂ (λ k w. or_else k (behind (walked arguments [] w (flag_word Threads))))
    (walk_value nothing_held 1 word (flag_word Threads ∷ []) reads) (walked_value nothing_held 1 word reads)
last_fault name word Explain reads =
    ap₂ (λ k w. or_else k (behind (walked arguments [] w (flag_word Explain))))
    (walk_value nothing_held 1 word (flag_word Explain ∷ []) reads) (walked_value nothing_held 1 word reads)
last_fault name word Check reads =
    ap₂ (λ k w. or_else k (behind (walked arguments [] w (flag_word Check))))
    (walk_value nothing_held 1 word (flag_word Check ∷ []) reads) (walked_value nothing_held 1 word reads)

-- with a flag twice
twice_fault : (name : Text) (flag : Flag) (rest : List Text)
    → fault_of command_line (name ∷ flag_word flag ∷ flag_word flag ∷ rest) ≡ kind.ArgumentConflict ∷ []
unfolding clap_on_literals
twice_fault name Threads rest = refl
twice_fault name Explain rest = refl
twice_fault name Check rest = refl

-- with two flags, one before the other
two_values : (name : Text) (first second : Flag) → is_same_flag first second ≡ false
    → values_in (name ∷ flag_word first ∷ flag_word second ∷ []) ≡ (None, None, None)
unfolding clap_on_literals
two_values name Threads Threads other = absurd (cc)
two_values name Threads Explain other = refl
two_values name Threads Check other = refl
two_values name Explain Threads other = refl
two_values name Explain Explain other = absurd (cc)
two_values name Explain Check other = refl
two_values name Check Threads other = refl
two_values name Check Explain other = refl
two_values name Check Check other = absurd (cc)

two_told : (name : Text) (first second flag : Flag) → is_same_flag first second ≡ false
    → flag_in flag (name ∷ flag_word first ∷ flag_word second ∷ []) ≡ Some (flag_text (is_same_flag first flag || is_same_flag second flag))
unfolding clap_on_literals
two_told name Threads Threads flag other = absurd (cc)
two_told name Threads Explain Threads other = refl
two_told name Threads Explain Explain other = refl
two_told name Threads Explain Check other = refl
two_told name Threads Check Threads other = refl
two_told name Threads Check Explain other = refl
two_told name Threads Check Check other = refl
two_told name Explain Threads Threads other = refl
two_told name Explain Threads Explain other = refl
two_told name Explain Threads Check other = refl
two_told name Explain Explain flag other = absurd (cc)
two_told name Explain Check Threads other = refl
two_told name Explain Check Explain other = refl
two_told name Explain Check Check other = refl
two_told name Check Threads Threads other = refl
two_told name Check Threads Explain other = refl
two_told name Check Threads Check other = refl
two_told name Check Explain Threads other = refl
two_told name Check Explain Explain other = refl
two_told name Check Explain Check other = refl
two_told name Check Check flag other = absurd (cc)

two_fault : (name : Text) (first second : Flag) → is_same_flag first second ≡ false
    → fault_of command_line (name ∷ flag_word first ∷ flag_word second ∷ []) ≡ []
unfolding clap_on_literals
two_fault name Threads Threads other = absurd (cc)
two_fault name Threads Explain other = refl
two_fault name Threads Check other = refl
two_fault name Explain Threads other = refl
two_fault name Explain Explain other = absurd (cc)
two_fault name Explain Check other = refl
two_fault name Check Threads other = refl
two_fault name Check Explain other = refl
two_fault name Check Check other = absurd (cc)

-- ---- a word behind --state or --fail-on

-- the walk where the option of this name waits for its value
abbrev asking : Text → Held → Walk
asking name h = record { held = h; waiting = option name; position = 1; is_trailing = false; stopped = None }

-- what the word comes to there
abbrev taken : Text → Text → Held → Held × Step
taken name word h = plain_word arguments (option name) word h

walked_behind : (name : Text) (h : Held) (word : Text) → ReadsAsValue word
    → walked arguments [] (asking name h) word ≡ after_step arguments word (asking name h) (taken name word h).0 (taken name word h).1
unfolding walked
walked_behind name h word reads = ap (λ m. after_step arguments word (asking name h) m.0 m.1) (word_read (option name) h 1 word reads)

fault_behind : (name : Text) (h : Held) (word : Text) → ReadsAsValue word → step_fault line 1 (taken name word h).0 (taken name word h).1 ≡ []
    → walk_fault line [] (asking name h) (word ∷ []) ≡ []
unfolding walk_fault
fault_behind name h word reads none =
    ap₂ (λ k l. or_else (or_else k l) []) (word_passes (option name) h word reads)
    (ap (λ m. step_fault line 1 m.0 m.1) (word_read (option name) h 1 word reads) ∙ none)

-- what is held behind --state
abbrev state_held : Held
state_held = (walk arguments [] nothing_held (codes "--state" ∷ [])).held

state_values : (name word : Text) → ReadsAsValue word → values_in (name ∷ codes "--state" ∷ word ∷ []) ≡ (Some word, None, None)
unfolding clap_on_literals
state_values name word reads = ap (λ w. values_of (finished arguments w.held)) (walked_behind (codes "state") state_held word reads)

state_told : (name word : Text) (flag : Flag) → ReadsAsValue word → flag_in flag (name ∷ codes "--state" ∷ word ∷ []) ≡ Some (codes "false")
unfolding clap_on_literals
state_told name word Threads reads =
    ap (λ w. one_of (flag_name Threads) (finished arguments w.held)) (walked_behind (codes "state") state_held word reads)
state_told name word Explain reads =
    ap (λ w. one_of (flag_name Explain) (finished arguments w.held)) (walked_behind (codes "state") state_held word reads)
state_told name word Check reads =
    ap (λ w. one_of (flag_name Check) (finished arguments w.held)) (walked_behind (codes "state") state_held word reads)

state_fault : (name word : Text) → ReadsAsValue word → fault_of command_line (name ∷ codes "--state" ∷ word ∷ []) ≡ []
unfolding clap_on_literals
state_fault name word reads =
    ap₂ (λ k w. or_else k (behind w)) (fault_behind (codes "state") state_held word reads refl) (walked_behind (codes "state") state_held word reads)

-- what is held behind --fail-on
abbrev fail_on_held : Held
fail_on_held = (walk arguments [] nothing_held (codes "--fail-on" ∷ [])).held

fail_on_values : (name word : Text) → ReadsAsValue word → values_in (name ∷ codes "--fail-on" ∷ word ∷ []) ≡ (None, Some word, None)
unfolding clap_on_literals
fail_on_values name word reads = ap (λ w. values_of (finished arguments w.held)) (walked_behind (codes "fail-on") fail_on_held word reads)

fail_on_told : (name word : Text) (flag : Flag) → ReadsAsValue word → flag_in flag (name ∷ codes "--fail-on" ∷ word ∷ []) ≡ Some (codes "false")
unfolding clap_on_literals
fail_on_told name word Threads reads =
    ap (λ w. one_of (flag_name Threads) (finished arguments w.held)) (walked_behind (codes "fail-on") fail_on_held word reads)
fail_on_told name word Explain reads =
    ap (λ w. one_of (flag_name Explain) (finished arguments w.held)) (walked_behind (codes "fail-on") fail_on_held word reads)
fail_on_told name word Check reads =
    ap (λ w. one_of (flag_name Check) (finished arguments w.held)) (walked_behind (codes "fail-on") fail_on_held word reads)

fail_on_fault : (name word : Text) → ReadsAsValue word → fault_of command_line (name ∷ codes "--fail-on" ∷ word ∷ []) ≡ []
unfolding clap_on_literals
fail_on_fault name word reads =
    ap₂ (λ k w. or_else k (behind w)) (fault_behind (codes "fail-on") fail_on_held word reads refl) (walked_behind (codes "fail-on") fail_on_held word reads)

-- ---- results

-- the flag is as its text says
pub flag_read : (text : Option Text) (given : Bool) → (text ≡ None → given ≡ false) → (text ≡ Some (codes "true") → given ≡ true)
    → (text ≡ Some (codes "false") → given ≡ false) → IsGiven text given
flag_read None given none set unset = none refl
flag_read (Some text) given none set unset = (λ e. set (ap (λ t. Some t) e), λ e. unset (ap (λ t. Some t) e))

given_is : (given flag : Bool) → IsGiven (Some (flag_text flag)) given → given ≡ flag
given_is given true told = told.0 refl
given_is given false told = told.1 refl

-- what holds of each flag
pub of_each : (P : Flag → Type 0) → P Threads → P Explain → P Check → (flag : Flag) → P flag
of_each P threads explain check Threads = threads
of_each P threads explain check Explain = explain
of_each P threads explain check Check = check

-- what the matches and the faults of the words make of a result
abbrev HasOptions : List Text → Result Options Error → Type 0
HasOptions words result =
    IfOk result (λ options. (option_map (λ f. f.now) options.file ≡ file_of words) × (option_map (λ w. w.now) options.state ≡ state_in words)
    × (option_map (λ w. w.now) options.fail_on ≡ fail_on_in words) × ((flag : Flag) → IsGiven (flag_in flag words) (has_flag options flag)))

-- what clap states of words: these flags are given, this stands behind --state, and this behind --fail-on, and this is the file
record SayThat (words : List Text) (given : Flag → Bool) (state fail_on file : Option Text) : Type 0 where
  flags_are : (flag : Flag) → flag_in flag words ≡ Some (flag_text (given flag))
  values_are : values_in words ≡ (state, fail_on, file)
  no_fault : fault_of command_line words ≡ []

asks : (words : List Text) (given : Flag → Bool) (state fail_on file : Option Text) (result : Result Options Error)
    → HasOptions words result → FailsBy (fault_of command_line words) result → SayThat words given state fail_on file → Asks given state fail_on file result
asks words given state fail_on file (Ok options) has fails say = (
  λ flag. given_is (has_flag options flag) (given flag) (subst (λ text. IsGiven text (has_flag options flag)) (say.flags_are flag) (has.3 flag)),
  has.1 ∙ ap (λ (v : Option Text × Option Text × Option Text). v.0) say.values_are,
  has.2 ∙ ap (λ (v : Option Text × Option Text × Option Text). v.1) say.values_are,
  has.0 ∙ ap (λ (v : Option Text × Option Text × Option Text). v.2) say.values_are,
)
asks words given state fail_on file (Err error) has fails say = elim (subst (λ kinds. HasKind kinds error) say.no_fault fails) [
  | inl memory ↦ memory
  | inr among ↦ absurd among
]

is_refused : (words : List Text) (result : Result Options Error) (kind : ErrorKind) → FailsBy (fault_of command_line words) result
    → fault_of command_line words ≡ kind ∷ [] → IsErr result
is_refused words (Ok options) kind fails refused =
    let none : kind ∷ [] ≡ [] = sym refused ∙ fails in
    let bad : 1 ≡ 0 = ap (λ (kinds : Kinds). length kinds) none in
    absurd (omega (arith, bad))
is_refused words (Err error) kind fails refused = refl

-- the words are these, of which clap states so much
asks_as : (words these : List Text) (given : Flag → Bool) (state fail_on file : Option Text) (result : Result Options Error)
    → HasOptions words result → FailsBy (fault_of command_line words) result → words ≡ these → SayThat these given state fail_on file
    → Asks given state fail_on file result
asks_as words these given state fail_on file result has fails e say =
    asks words given state fail_on file result has fails (subst (λ (ws : List Text). SayThat ws given state fail_on file) (sym e) say)

refused_as : (words these : List Text) (result : Result Options Error) (kind : ErrorKind) → FailsBy (fault_of command_line words) result
    → words ≡ these → fault_of command_line these ≡ kind ∷ [] → IsErr result
refused_as words these result kind fails e refused = is_refused words result kind fails (ap (fault_of command_line) e ∙ refused)

say_alone : (name : Text) (flag : Flag) → SayThat (name ∷ flag_word flag ∷ []) (is_same_flag flag) None None None
say_alone name flag = record { flags_are = flag_told name flag; values_are = flag_values name flag; no_fault = flag_fault name flag }

say_first : (name word : Text) (flag : Flag) → ReadsAsValue word → SayThat (name ∷ flag_word flag ∷ word ∷ []) (is_same_flag flag) None None (Some word)
say_first name word flag reads = record {
  flags_are = λ other. first_told name word flag other reads;
  values_are = first_values name word flag reads;
  no_fault = first_fault name word flag reads;
}

say_last : (name word : Text) (flag : Flag) → ReadsAsValue word → SayThat (name ∷ word ∷ flag_word flag ∷ []) (is_same_flag flag) None None (Some word)
say_last name word flag reads = record {
  flags_are = λ other. last_told name word flag other reads;
  values_are = last_values name word flag reads;
  no_fault = last_fault name word flag reads;
}

say_two : (name : Text) (first second : Flag) → is_same_flag first second ≡ false
    → SayThat (name ∷ flag_word first ∷ flag_word second ∷ []) (λ flag. is_same_flag first flag || is_same_flag second flag) None None None
say_two name first second other = record {
  flags_are = λ flag. two_told name first second flag other;
  values_are = two_values name first second other;
  no_fault = two_fault name first second other;
}

say_none : (name : Text) → SayThat (name ∷ []) (λ flag. false) None None None
say_none name = record { flags_are = no_flag name; values_are = no_values name; no_fault = no_fault name }

say_one : (name word : Text) → ReadsAsValue word → SayThat (name ∷ word ∷ []) (λ flag. false) None None (Some word)
say_one name word reads = record {
  flags_are = λ flag. no_flag_one name word flag reads;
  values_are = one_values name word reads;
  no_fault = one_fault name word reads;
}

say_state : (name word : Text) → ReadsAsValue word → SayThat (name ∷ codes "--state" ∷ word ∷ []) (λ flag. false) (Some word) None None
say_state name word reads = record {
  flags_are = λ flag. state_told name word flag reads;
  values_are = state_values name word reads;
  no_fault = state_fault name word reads;
}

say_fail_on : (name word : Text) → ReadsAsValue word → SayThat (name ∷ codes "--fail-on" ∷ word ∷ []) (λ flag. false) None (Some word) None
say_fail_on name word reads = record {
  flags_are = λ flag. fail_on_told name word flag reads;
  values_are = fail_on_values name word reads;
  no_fault = fail_on_fault name word reads;
}

pub follows_usage : (words : List Text) (result : Result Options Error) → HasOptions words result → FailsBy (fault_of command_line words) result
    → FollowsUsage words result
follows_usage words result has fails = record {
  none = λ name e. asks_as words _ (λ flag. false) None None None result has fails e (say_none name);
  one = λ name word plain e. asks_as words _ (λ flag. false) None None (Some word) result has fails e (say_one name word (plain_value word plain));
  more = λ name first second rest plain_first plain_second e.
      refused_as words _ result kind.UnknownArgument fails e
      (more_fault name first second rest (plain_value first plain_first) (plain_value second plain_second));
  flag = λ name flag e. asks_as words _ (is_same_flag flag) None None None result has fails e (say_alone name flag);
  flag_first = λ name word flag plain e.
      asks_as words _ (is_same_flag flag) None None (Some word) result has fails e (say_first name word flag (plain_value word plain));
  flag_last = λ name word flag plain e.
      asks_as words _ (is_same_flag flag) None None (Some word) result has fails e (say_last name word flag (plain_value word plain));
  twice = λ name flag rest e. refused_as words _ result kind.ArgumentConflict fails e (twice_fault name flag rest);
  two = λ name first second other e.
      asks_as words _ (λ flag. is_same_flag first flag || is_same_flag second flag) None None None result has fails e (say_two name first second other);
  state = λ name word plain e. asks_as words _ (λ flag. false) (Some word) None None result has fails e (say_state name word (plain_value word plain));
  fail_on = λ name word plain e. asks_as words _ (λ flag. false) None (Some word) None result has fails e (say_fail_on name word (plain_value word plain));
}
