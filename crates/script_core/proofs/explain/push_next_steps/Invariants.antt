use Rattle.script_core.proofs.Common.{◌≡◌, ◌++◌, flat_map, take, next_step_text}
use Rattle.script_core.proofs.explain.push_next_steps.Given as goal

abbrev pub invariant-loop-link : goal.invariant-loop-link
invariant-loop-link l = l.text.items ≡ l.fn.text.items ++ flat_map next_step_text (take l.link-index l.links)
