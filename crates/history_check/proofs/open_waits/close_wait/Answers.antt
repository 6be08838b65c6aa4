use Rattle.std.proofs.Common.{rules, ◌==◌}
use Rattle.std.specs.Prelude.{not}
use Rattle.std.proofs.lemmas.Fn.{filter_same}
use Rattle.history_check.proofs.open_waits.close_wait.Goals as goal

pub returns : goal.returns
returns c = filter_same _ (λ w. not (w.id == c.args.id)) _ (λ w b f called. search rules) _ _ c.retain.ensures.filtered
