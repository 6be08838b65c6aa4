use Rattle.std.proofs.Common.{◌∙◌, sym}
use Rattle.owner_runs.proofs.LoneLemmas.{set_already}
use Rattle.owner_runs.proofs.owner_runs.set_listed.Goals as goal

pub returns-then-is_covered-clause-ok : goal.returns-then-is_covered-clause-ok
returns-then-is_covered-clause-ok c = set_already _ c.args.span c.args.mode (λ byte covers.
    (c.is_covered.ensures _ c.run_at.ensures.run c.run_at.ensures.none).0 c.if-is_covered.true byte covers ∙ sym c.in-Some.is)
