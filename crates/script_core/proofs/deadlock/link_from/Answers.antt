use Rattle.script_core.proofs.Common.{slice_get_within, arith}
use Rattle.script_core.proofs.deadlock.link_from.Goals as goal

pub returns : goal.returns
returns c (place, blocks) =
    let within = slice_get_within c.args.waits.now place blocks.wait blocks.at in
    c.loop-place.invariant place (omega arith) blocks
