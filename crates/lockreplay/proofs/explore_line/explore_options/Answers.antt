use Rattle.std.proofs.Common.{rules, ◌≡◌, ◌∙◌, refl, ap, map, codes, string_bytes, Ok, Err}
use Rattle.clap.specs.Words.{App, app_of, takes}
use Rattle.lockreplay.specs.ExploreLine.{explore_line}
use Rattle.lockreplay.proofs.CommandLineLemmas.{value_found, fails_as_stated}
use Rattle.lockreplay.proofs.explore_line.explore_options.Goals as goal

pub returns : goal.returns
returns c =
    let words = map string_bytes c.args.words.now in
    let found = c.in_ok-matches.matches in
    let matches = c.in_ok-matches.ensures.matches in
    let app = app_of c.in_ok-command.field-0 in
    let is : app ≡ explore_line = search rules in
    record {
      file = c.get_str-4.ensures ∙ value_found explore_line refl (codes "file") app words found is matches;
      limit = c.get_str.ensures ∙ value_found explore_line refl (codes "limit") app words found is matches;
      fail_on = c.get_str-2.ensures ∙ value_found explore_line refl (codes "fail-on") app words found is matches;
      run = c.get_str-3.ensures ∙ value_found explore_line refl (codes "run") app words found is matches;
      kind = fails_as_stated explore_line refl app words (Ok found) is c.in_ok-matches.ensures.kinds;
      taken = tt;
    }

pub returns-in_err-matches-clause-kind : goal.returns-in_err-matches-clause-kind
returns-in_err-matches-clause-kind c =
    let app = app_of c.in_ok-command.field-0 in
    let is : app ≡ explore_line = search rules in
    let refused : c.from_residual-in_err-matches.result ≡ Err c.in_err-matches.field-0.0 = search rules in
    rw refused (fails_as_stated explore_line refl app (map string_bytes c.args.words.now) (Err c.in_err-matches.field-0.0) is c.in_err-matches.ensures.kinds)

pub returns-in_err-matches-clause-taken : goal.returns-in_err-matches-clause-taken
returns-in_err-matches-clause-taken c =
    let is : app_of c.in_ok-command.field-0 ≡ explore_line = search rules in
    let refused : c.from_residual-in_err-matches.result ≡ Err c.in_err-matches.field-0.0 = search rules in
    rw refused (λ taken. c.in_err-matches.ensures.passes (ap (λ (a : App). takes a (map string_bytes c.args.words.now)) is ∙ taken))
