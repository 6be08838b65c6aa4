use Rattle.std.proofs.Common.{rules, ◌≡◌, Err, inl, inr}
use Rattle.lockreplay.proofs.options.HistoryOptions.judging.Goals as goal

pub returns-in_err-limit : goal.returns-in_err-limit
returns-in_err-limit c =
    let refused : c.from_residual.result ≡ Err c.in_err-limit.field-0.0 = search rules in
    rw refused (inl c.in_err-limit.ensures)

pub returns-in_err-states : goal.returns-in_err-states
returns-in_err-states c =
    let refused : c.from_residual-in_err-states.result ≡ Err c.in_err-states.field-0.0 = search rules in
    rw refused (inr ((c.in_ok-limit.limit, c.in_ok-limit.ensures), c.in_err-states.ensures))
