-- What the program's command line says where it asks for a history (the command line is this project's choice).
use Rattle.std.specs.Prelude.{List, Option, codes}
use Rattle.clap.specs.Words.{App, Text, first_of, matches_of, one_of, with_rule}
use Rattle.lockreplay.specs.CommandLine.{file_argument, flag_rule, option_rule, versioned_app}

-- the command `lockreplay --history [--limit N] [--open] [--runs] [--order] [--state N] [FILE]`, to which clap adds `--help`, `-h`, `--version` and `-V`
abbrev pub history_line : App
history_line =
    with_rule
    (with_rule
    (with_rule
    (with_rule (with_rule (with_rule (with_rule versioned_app (flag_rule (codes "history"))) (option_rule (codes "limit"))) (flag_rule (codes "open")))
    (flag_rule (codes "runs")))
    (flag_rule (codes "order")))
    (option_rule (codes "state")))
    file_argument

-- the FILE of these words, by the matches that clap states for them, and the words behind --limit and --state
abbrev pub value_in : Text → List Text → Option Text
value_in name words = first_of name (matches_of history_line words)

-- the text of a flag in these words, by the same matches
abbrev pub history_flag_in : Text → List Text → Option Text
history_flag_in name words = one_of name (matches_of history_line words)
