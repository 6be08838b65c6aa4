use Rattle.std.proofs.Common.{rules, ◌≡◌, ◌∙◌, refl, ap, subst, map, codes, string_bytes, Ok, Err}
use Rattle.clap.specs.Words.{App, app_of, found_of, one_text, takes}
use Rattle.lockreplay.specs.CommandLine.{command_line, IsGiven, flag_in, has_flag}
use Rattle.lockreplay.specs.declared.options.Options.{Options}
use Rattle.lockreplay.proofs.CommandLineLemmas.{value_found, flag_found, flag_read, fails_as_stated, follows_usage, of_each}
use Rattle.lockreplay.proofs.command_line.options.Goals as goal

pub returns : goal.returns
returns c =
    let words = map string_bytes c.args.words.now in
    let found = c.in_ok-matches.matches in
    let matches = c.in_ok-matches.ensures.matches in
    let app = app_of c.in_ok-command.field-0 in
    let is : app ≡ command_line = search rules in
    let options : Options = record { threads = c.get_flag.result; explain = c.get_flag-2.result; check = c.get_flag-3.result; state = c.get_str.result; fail_on = c.get_str-2.result; file = c.get_str-3.result } in
    let file = c.get_str-3.ensures ∙ value_found command_line refl (codes "file") app words found is matches in
    let state = c.get_str.ensures ∙ value_found command_line refl (codes "state") app words found is matches in
    let fail_on = c.get_str-2.ensures ∙ value_found command_line refl (codes "fail-on") app words found is matches in
    let flags =
    of_each (λ flag. IsGiven (flag_in flag words) (has_flag options flag))
    (subst (λ text. IsGiven text c.get_flag.result) (flag_found command_line refl (codes "threads") app words found is matches)
    (flag_read (one_text (found_of found) (codes "threads")) c.get_flag.result c.get_flag.ensures.none c.get_flag.ensures.value c.get_flag.ensures.other))
    (subst (λ text. IsGiven text c.get_flag-2.result) (flag_found command_line refl (codes "explain") app words found is matches)
    (flag_read (one_text (found_of found) (codes "explain")) c.get_flag-2.result c.get_flag-2.ensures.none c.get_flag-2.ensures.value c.get_flag-2.ensures.other))
    (subst (λ text. IsGiven text c.get_flag-3.result) (flag_found command_line refl (codes "check") app words found is matches)
    (flag_read (one_text (found_of found) (codes "check")) c.get_flag-3.result c.get_flag-3.ensures.none c.get_flag-3.ensures.value c.get_flag-3.ensures.other))
    in
    let kind = fails_as_stated command_line refl app words (Ok found) is c.in_ok-matches.ensures.kinds in
    record {
      file = file;
      state = state;
      fail_on = fail_on;
      flags = flags;
      kind = kind;
      taken = tt;
      usage = follows_usage words (Ok options) (file, state, fail_on, flags) kind;
    }

pub returns-in_err-matches-clause-kind : goal.returns-in_err-matches-clause-kind
returns-in_err-matches-clause-kind c =
    let app = app_of c.in_ok-command.field-0 in
    let is : app ≡ command_line = search rules in
    let refused : c.from_residual-in_err-matches.result ≡ Err c.in_err-matches.field-0.0 = search rules in
    rw refused (fails_as_stated command_line refl app (map string_bytes c.args.words.now) (Err c.in_err-matches.field-0.0) is c.in_err-matches.ensures.kinds)

pub returns-in_err-matches-clause-taken : goal.returns-in_err-matches-clause-taken
returns-in_err-matches-clause-taken c =
    let is : app_of c.in_ok-command.field-0 ≡ command_line = search rules in
    let refused : c.from_residual-in_err-matches.result ≡ Err c.in_err-matches.field-0.0 = search rules in
    rw refused (λ taken. c.in_err-matches.ensures.passes (ap (λ (a : App). takes a (map string_bytes c.args.words.now)) is ∙ taken))

pub returns-in_err-matches-clause-usage : goal.returns-in_err-matches-clause-usage
returns-in_err-matches-clause-usage c =
    let refused : c.from_residual-in_err-matches.result ≡ Err c.in_err-matches.field-0.0 = search rules in
    follows_usage (map string_bytes c.args.words.now) c.from_residual-in_err-matches.result (rw refused tt) (returns-in_err-matches-clause-kind c)
