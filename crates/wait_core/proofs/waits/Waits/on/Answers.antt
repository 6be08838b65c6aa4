use Rattle.wait_core.proofs.Common.{waits_on, waits_of}
use Rattle.wait_core.proofs.FileLemmas.{length_on}
use Rattle.wait_core.proofs.waits.Waits.on.Goals as goal

pub on-requires : goal.on-requires
unfolding waits_of
on-requires c =
    let self = c.args.self.now in
    (waits_on self.waits.items, self.linked, length_on self.waits.items c.args.file self.short)

pub returns : goal.returns
unfolding waits_of
returns c =
    let self = c.args.self.now in
    c.on.ensures (waits_on self.waits.items) self.linked (length_on self.waits.items c.args.file self.short)
