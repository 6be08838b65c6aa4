use Rattle.std.proofs.Common.{rules, ◌≡◌, ◌∙◌, refl, ap, subst, map, codes, string_bytes, Ok, Err}
use Rattle.clap.specs.Words.{App, app_of, found_of, one_text, takes}
use Rattle.lockreplay.specs.CommandLine.{IsGiven}
use Rattle.lockreplay.specs.HistoryLine.{history_line}
use Rattle.lockreplay.proofs.CommandLineLemmas.{value_found, flag_found, flag_read, fails_as_stated}
use Rattle.lockreplay.proofs.history_line.history_options.Goals as goal

pub returns : goal.returns
returns c =
    let words = map string_bytes c.args.words.now in
    let found = c.in_ok-matches.matches in
    let matches = c.in_ok-matches.ensures.matches in
    let app = app_of c.in_ok-command.field-0 in
    let is : app ≡ history_line = search rules in
    record {
      file = c.get_str-3.ensures ∙ value_found history_line refl (codes "file") app words found is matches;
      limit = c.get_str-2.ensures ∙ value_found history_line refl (codes "limit") app words found is matches;
      state = c.get_str.ensures ∙ value_found history_line refl (codes "state") app words found is matches;
      open_waits =
          subst (λ text. IsGiven text c.get_flag.result) (flag_found history_line refl (codes "open") app words found is matches)
          (flag_read (one_text (found_of found) (codes "open")) c.get_flag.result c.get_flag.ensures.none c.get_flag.ensures.value c.get_flag.ensures.other);
      runs =
          subst (λ text. IsGiven text c.get_flag-2.result) (flag_found history_line refl (codes "runs") app words found is matches)
          (flag_read (one_text (found_of found) (codes "runs")) c.get_flag-2.result c.get_flag-2.ensures.none c.get_flag-2.ensures.value c.get_flag-2.ensures.other);
      order =
          subst (λ text. IsGiven text c.get_flag-3.result) (flag_found history_line refl (codes "order") app words found is matches)
          (flag_read (one_text (found_of found) (codes "order")) c.get_flag-3.result c.get_flag-3.ensures.none c.get_flag-3.ensures.value c.get_flag-3.ensures.other);
      kind = fails_as_stated history_line refl app words (Ok found) is c.in_ok-matches.ensures.kinds;
      taken = tt;
    }

pub returns-in_err-matches-clause-kind : goal.returns-in_err-matches-clause-kind
returns-in_err-matches-clause-kind c =
    let app = app_of c.in_ok-command.field-0 in
    let is : app ≡ history_line = search rules in
    let refused : c.from_residual-in_err-matches.result ≡ Err c.in_err-matches.field-0.0 = search rules in
    rw refused (fails_as_stated history_line refl app (map string_bytes c.args.words.now) (Err c.in_err-matches.field-0.0) is c.in_err-matches.ensures.kinds)

pub returns-in_err-matches-clause-taken : goal.returns-in_err-matches-clause-taken
returns-in_err-matches-clause-taken c =
    let is : app_of c.in_ok-command.field-0 ≡ history_line = search rules in
    let refused : c.from_residual-in_err-matches.result ≡ Err c.in_err-matches.field-0.0 = search rules in
    rw refused (λ taken. c.in_err-matches.ensures.passes (ap (λ (a : App). takes a (map string_bytes c.args.words.now)) is ∙ taken))
