use Rattle.std.proofs.Common.{rules, ◌≡◌, ◌∙◌, ap₂, codes}
use Rattle.std.proofs.lemmas.Result.{IfOk-weaker}
use Rattle.clap.specs.Words.{app_of, rule_of, with_rule}
use Rattle.lockreplay.specs.CommandLine.{file_argument, flag_rule, option_rule, versioned_app}
use Rattle.lockreplay.proofs.command_line.command.Goals as goal

pub returns : goal.returns
returns c =
    let threads_is : rule_of c.flag-threads.result ≡ flag_rule (codes "threads") = search rules in
    let explain_is : rule_of c.flag-explain.result ≡ flag_rule (codes "explain") = search rules in
    let check_is : rule_of c.flag-check.result ≡ flag_rule (codes "check") = search rules in
    let state_is : rule_of c.option-state.result ≡ option_rule (codes "state") = search rules in
    let fail_on_is : rule_of c.option-fail_on.result ≡ option_rule (codes "fail-on") = search rules in
    let file_is : rule_of c.file_argument.result ≡ file_argument = search rules in
    let start_is : app_of c.after_help.result ≡ versioned_app = search rules in
    let first = with_rule versioned_app (flag_rule (codes "threads")) in
    let first_is : app_of c.in_ok-arg.field-0 ≡ first = c.in_ok-arg.ensures.shape (search rules) ∙ ap₂ with_rule start_is threads_is in
    let second = with_rule first (flag_rule (codes "explain")) in
    let second_is : app_of c.in_ok-arg-2.field-0 ≡ second = c.in_ok-arg-2.ensures.shape (search rules) ∙ ap₂ with_rule first_is explain_is in
    let third = with_rule second (option_rule (codes "state")) in
    let third_is : app_of c.in_ok-arg-3.field-0 ≡ third = c.in_ok-arg-3.ensures.shape (search rules) ∙ ap₂ with_rule second_is state_is in
    let fourth = with_rule third (flag_rule (codes "check")) in
    let fourth_is : app_of c.in_ok-arg-4.field-0 ≡ fourth = c.in_ok-arg-4.ensures.shape (search rules) ∙ ap₂ with_rule third_is check_is in
    let fifth = with_rule fourth (option_rule (codes "fail-on")) in
    let fifth_is : app_of c.in_ok-arg-5.field-0 ≡ fifth = c.in_ok-arg-5.ensures.shape (search rules) ∙ ap₂ with_rule fourth_is fail_on_is in
    IfOk-weaker c.arg-6.result _ _ (λ made added. added.shape (search rules) ∙ ap₂ with_rule fifth_is file_is) c.arg-6.ensures
