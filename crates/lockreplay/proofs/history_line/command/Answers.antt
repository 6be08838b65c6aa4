use Rattle.std.proofs.Common.{rules, ◌≡◌, ◌∙◌, ap₂, codes}
use Rattle.std.proofs.lemmas.Result.{IfOk-weaker}
use Rattle.clap.specs.Words.{app_of, rule_of, with_rule}
use Rattle.lockreplay.specs.CommandLine.{file_argument, flag_rule, option_rule, versioned_app}
use Rattle.lockreplay.proofs.history_line.command.Goals as goal

pub returns : goal.returns
returns c =
    let history_is : rule_of c.flag-history.result ≡ flag_rule (codes "history") = search rules in
    let limit_is : rule_of c.option-limit.result ≡ option_rule (codes "limit") = search rules in
    let waits_is : rule_of c.flag-waits.result ≡ flag_rule (codes "open") = search rules in
    let runs_is : rule_of c.flag-runs.result ≡ flag_rule (codes "runs") = search rules in
    let order_is : rule_of c.flag-order.result ≡ flag_rule (codes "order") = search rules in
    let state_is : rule_of c.option-state.result ≡ option_rule (codes "state") = search rules in
    let file_is : rule_of c.file_argument.result ≡ file_argument = search rules in
    let start_is : app_of c.after_help.result ≡ versioned_app = search rules in
    let first = with_rule versioned_app (flag_rule (codes "history")) in
    let first_is : app_of c.in_ok-arg.field-0 ≡ first = c.in_ok-arg.ensures.shape (search rules) ∙ ap₂ with_rule start_is history_is in
    let second = with_rule first (option_rule (codes "limit")) in
    let second_is : app_of c.in_ok-arg-2.field-0 ≡ second = c.in_ok-arg-2.ensures.shape (search rules) ∙ ap₂ with_rule first_is limit_is in
    let third = with_rule second (flag_rule (codes "open")) in
    let third_is : app_of c.in_ok-arg-3.field-0 ≡ third = c.in_ok-arg-3.ensures.shape (search rules) ∙ ap₂ with_rule second_is waits_is in
    let fourth = with_rule third (flag_rule (codes "runs")) in
    let fourth_is : app_of c.in_ok-arg-4.field-0 ≡ fourth = c.in_ok-arg-4.ensures.shape (search rules) ∙ ap₂ with_rule third_is runs_is in
    let fifth = with_rule fourth (flag_rule (codes "order")) in
    let fifth_is : app_of c.in_ok-arg-5.field-0 ≡ fifth = c.in_ok-arg-5.ensures.shape (search rules) ∙ ap₂ with_rule fourth_is order_is in
    let sixth = with_rule fifth (option_rule (codes "state")) in
    let sixth_is : app_of c.in_ok-arg-6.field-0 ≡ sixth = c.in_ok-arg-6.ensures.shape (search rules) ∙ ap₂ with_rule fifth_is state_is in
    IfOk-weaker c.arg-7.result _ _ (λ made added. added.shape (search rules) ∙ ap₂ with_rule sixth_is file_is) c.arg-7.ensures
