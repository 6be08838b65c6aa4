use Rattle.script_core.proofs.Common.{◌∙◌, ap, arith, common_steps, List, map, Mode, Span, byte_line}
use Rattle.std.proofs.lemmas.List.{map-append}
use Rattle.owner_runs.proofs.ForCallers.{all_came}
use Rattle.script_core.proofs.losses.byte_lines.Goals as goal

pub loop-mode-preserved : goal.loop-mode-preserved
loop-mode-preserved c = grind (arith, common_steps, map-append)

pub returns : goal.returns
returns c =
    c.loop-mode.invariant.2
    ∙ ap (λ (l : List (Mode × Span)). map (byte_line c.args.file c.args.owner) l)
    (all_came c.args.runs c.loop-mode.yielded _ _ _ _ c.into_iter-mode-iterator.ensures.into_iter_gives c.loop-mode.yielded_by c.next.ensures.steps c.in-None.is)
