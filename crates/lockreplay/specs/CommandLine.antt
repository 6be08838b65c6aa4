-- What the program's command line says (the command line is this project's choice).
use Rattle.std.specs.Prelude.{◌≡◌, ◌≢◌, ◌||◌, Bool, true, false, List, [], ◌∷◌, Option, Some, None, Result, MatchResult, IsErr, codes, option_map}
use Rattle.clap.specs.Simple.{on_top}
use Rattle.clap.specs.Words.{App, Rule, Text, first_of, kind_of, matches_of, one_of, new_app, new_rule, with_rule}
use Rattle.clap.specs.declared.builder.action.ArgAction.TheVariants.{SetTrue}
use Rattle.clap.specs.declared.error.Error.{Error}
use Rattle.clap.specs.declared.error.kind.ErrorKind.TheVariants.{OutOfMemory}
use Rattle.lockreplay.specs.declared.options.Options.{Options}

-- FILE is a word of its own, which may be left out
abbrev pub file_argument : Rule
file_argument = record (new_rule (codes "file")) { value_names = 1 }

-- the flag with this name
abbrev pub flag_rule : Text → Rule
flag_rule name = record (new_rule name) { long = Some name; action = Some SetTrue }

-- the option with this name, which stands before its value
abbrev pub option_rule : Text → Rule
option_rule name = record (new_rule name) { long = Some name; value_names = 1 }

-- the flags of the program
pub data Flag : Type 0 where
  Threads : Flag
  Explain : Flag
  Check : Flag

-- the name of a flag
abbrev pub flag_name : Flag → Text
flag_name Threads = codes "threads"
flag_name Explain = codes "explain"
flag_name Check = codes "check"

-- its word
abbrev pub flag_word : Flag → Text
flag_word Threads = codes "--threads"
flag_word Explain = codes "--explain"
flag_word Check = codes "--check"

-- whether the two are the same
abbrev pub is_same_flag : Flag → Flag → Bool
is_same_flag Threads Threads = true
is_same_flag Threads Explain = false
is_same_flag Threads Check = false
is_same_flag Explain Threads = false
is_same_flag Explain Explain = true
is_same_flag Explain Check = false
is_same_flag Check Threads = false
is_same_flag Check Explain = false
is_same_flag Check Check = true

-- the command with that name, which has a version
abbrev pub versioned_app : App
versioned_app = on_top (λ shape. record shape { has_version = true }) (new_app (codes "lockreplay"))

-- the command `lockreplay [--threads] [--explain] [--state N] [--check] [--fail-on LIST] [FILE]`, to which clap adds `--help`, `-h`, `--version`
-- and `-V`
abbrev pub command_line : App
command_line =
    with_rule
    (with_rule
    (with_rule (with_rule (with_rule (with_rule versioned_app (flag_rule (codes "threads"))) (flag_rule (codes "explain"))) (option_rule (codes "state")))
    (flag_rule (codes "check")))
    (option_rule (codes "fail-on")))
    file_argument

-- the FILE of these words, the first of which is the program's name, by the matches that clap states for them
abbrev pub file_of : List Text → Option Text
file_of words = first_of (codes "file") (matches_of command_line words)

-- the word behind --state in these words, by the same matches
abbrev pub state_in : List Text → Option Text
state_in words = first_of (codes "state") (matches_of command_line words)

-- the word behind --fail-on in these words, by the same matches
abbrev pub fail_on_in : List Text → Option Text
fail_on_in words = first_of (codes "fail-on") (matches_of command_line words)

-- the text of a flag in these words, by the same matches
abbrev pub flag_in : Flag → List Text → Option Text
flag_in flag words = one_of (flag_name flag) (matches_of command_line words)

-- a flag with this text is given, or isn't
abbrev pub IsGiven : Option Text → Bool → Type 0
IsGiven None given = given ≡ false
IsGiven (Some text) given = (text ≡ codes "true" → given ≡ true) × (text ≡ codes "false" → given ≡ false)

-- the word begins with no hyphen (45)
abbrev pub IsPlain : Text → Type 0
IsPlain word = (rest : Text) → word ≢ 45 ∷ rest

-- whether the options have the flag
abbrev pub has_flag : Options → Flag → Bool
has_flag options Threads = options.threads
has_flag options Explain = options.explain
has_flag options Check = options.check

-- just these flags are given, this stands behind --state, and this behind --fail-on, and this is the file; and only want of memory refuses the
-- words
abbrev pub Asks : (Flag → Bool) → (state fail_on file : Option Text) → Result Options Error → Type 0
Asks given state fail_on file result =
    MatchResult result
    (λ options. ((flag : Flag) → has_flag options flag ≡ given flag) × (option_map (λ w. w.now) options.state ≡ state)
    × (option_map (λ w. w.now) options.fail_on ≡ fail_on) × (option_map (λ f. f.now) options.file ≡ file))
    (λ error. kind_of error ≡ OutOfMemory)

-- the same without clap's words: the program's name alone asks for no flag and no file, a plain word behind it is the file, and two of
-- them are refused; the word of a flag before or behind a file gives that flag, those of two flags both, and one twice is refused; a plain
-- word behind --state or --fail-on is its value
pub record FollowsUsage (words : List Text) (result : Result Options Error) : Type 0 where
  pub none : (name : Text) → words ≡ name ∷ [] → Asks (λ flag. false) None None None result
  pub one : (name word : Text) → IsPlain word → words ≡ name ∷ word ∷ [] → Asks (λ flag. false) None None (Some word) result
  pub more : (name first second : Text) (rest : List Text) → IsPlain first → IsPlain second → words ≡ name ∷ first ∷ second ∷ rest → IsErr result
  pub flag : (name : Text) (flag : Flag) → words ≡ name ∷ flag_word flag ∷ [] → Asks (is_same_flag flag) None None None result
  pub flag_first : (name word : Text) (flag : Flag) → IsPlain word → words ≡ name ∷ flag_word flag ∷ word ∷ []
      → Asks (is_same_flag flag) None None (Some word) result
  pub flag_last : (name word : Text) (flag : Flag) → IsPlain word → words ≡ name ∷ word ∷ flag_word flag ∷ []
      → Asks (is_same_flag flag) None None (Some word) result
  pub twice : (name : Text) (flag : Flag) (rest : List Text) → words ≡ name ∷ flag_word flag ∷ flag_word flag ∷ rest → IsErr result
  pub two : (name : Text) (first second : Flag) → is_same_flag first second ≡ false → words ≡ name ∷ flag_word first ∷ flag_word second ∷ []
      → Asks (λ flag. is_same_flag first flag || is_same_flag second flag) None None None result
  pub state : (name word : Text) → IsPlain word → words ≡ name ∷ codes "--state" ∷ word ∷ [] → Asks (λ flag. false) (Some word) None None result
  pub fail_on : (name word : Text) → IsPlain word → words ≡ name ∷ codes "--fail-on" ∷ word ∷ [] → Asks (λ flag. false) None (Some word) None result
