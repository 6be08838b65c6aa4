-- What the program's command line says where it asks for a search (the command line is this project's choice).
use Rattle.std.specs.Prelude.{List, Option, codes}
use Rattle.clap.specs.Words.{App, Text, first_of, matches_of, with_rule}
use Rattle.lockreplay.specs.CommandLine.{file_argument, flag_rule, option_rule, versioned_app}

-- the command `lockreplay --explore [--limit N] [--fail-on LIST] [--run FINDING] [FILE]`, to which clap adds `--help`, `-h`, `--version` and `-V`
abbrev pub explore_line : App
explore_line =
    with_rule
    (with_rule (with_rule (with_rule (with_rule versioned_app (flag_rule (codes "explore"))) (option_rule (codes "limit"))) (option_rule (codes "fail-on")))
    (option_rule (codes "run")))
    file_argument

-- the FILE of these words, by the matches that clap states for them, and the words behind --limit, --fail-on and --run
abbrev pub explore_value_in : Text → List Text → Option Text
explore_value_in name words = first_of name (matches_of explore_line words)
