use Rattle.script_core.proofs.Common.{ap}
use Rattle.std.specs.Option.{option_copied}
use Rattle.script_core.proofs.LossLemmas.{listed_result, unlisted_result}
use Rattle.script_core.proofs.losses.byte_locks.Goals as goal

pub returns-in-Some : goal.returns-in-Some
returns-in-Some c =
    listed_result (λ lines. lines.items) c.byte_lines.result c.args.manager.now c.args.file c.args.owner (option_copied c.byte_locks.result) c.in-Some.list.now
    c.runs.result c.byte_locks.ensures (ap option_copied c.in-Some.is) c.runs.ensures.runs c.byte_lines.ensures

pub returns-in-None : goal.returns-in-None
returns-in-None c =
    unlisted_result c.args.manager.now c.args.file c.args.owner (option_copied c.byte_locks.result) c.new.result.items c.byte_locks.ensures
    (ap option_copied c.in-None.is) c.new.ensures.items
