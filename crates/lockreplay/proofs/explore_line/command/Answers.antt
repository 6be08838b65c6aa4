use Rattle.std.proofs.Common.{rules, ◌≡◌, ◌∙◌, ap₂, codes}
use Rattle.std.proofs.lemmas.Result.{IfOk-weaker}
use Rattle.clap.specs.Words.{app_of, rule_of, with_rule}
use Rattle.lockreplay.specs.CommandLine.{file_argument, flag_rule, option_rule, versioned_app}
use Rattle.lockreplay.proofs.explore_line.command.Goals as goal

pub returns : goal.returns
returns c =
    let explore_is : rule_of c.flag-explore.result ≡ flag_rule (codes "explore") = search rules in
    let limit_is : rule_of c.option-limit.result ≡ option_rule (codes "limit") = search rules in
    let fail_on_is : rule_of c.option-fail_on.result ≡ option_rule (codes "fail-on") = search rules in
    let run_is : rule_of c.option-run.result ≡ option_rule (codes "run") = search rules in
    let file_is : rule_of c.file_argument.result ≡ file_argument = search rules in
    let start_is : app_of c.after_help.result ≡ versioned_app = search rules in
    let first = with_rule versioned_app (flag_rule (codes "explore")) in
    let first_is : app_of c.in_ok-arg.field-0 ≡ first = c.in_ok-arg.ensures.shape (search rules) ∙ ap₂ with_rule start_is explore_is in
    let second = with_rule first (option_rule (codes "limit")) in
    let second_is : app_of c.in_ok-arg-2.field-0 ≡ second = c.in_ok-arg-2.ensures.shape (search rules) ∙ ap₂ with_rule first_is limit_is in
    let third = with_rule second (option_rule (codes "fail-on")) in
    let third_is : app_of c.in_ok-arg-3.field-0 ≡ third = c.in_ok-arg-3.ensures.shape (search rules) ∙ ap₂ with_rule second_is fail_on_is in
    let fourth = with_rule third (option_rule (codes "run")) in
    let fourth_is : app_of c.in_ok-arg-4.field-0 ≡ fourth = c.in_ok-arg-4.ensures.shape (search rules) ∙ ap₂ with_rule third_is run_is in
    IfOk-weaker c.arg-5.result _ _ (λ made added. added.shape (search rules) ∙ ap₂ with_rule fourth_is file_is) c.arg-5.ensures
