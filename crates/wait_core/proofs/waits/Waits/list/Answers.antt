use Rattle.wait_core.proofs.Common.{waits_of, processes_of}
use Rattle.wait_core.proofs.ListLemmas.{room_for}
use Rattle.wait_core.proofs.waits.Waits.list.Goals as goal

pub returns-clause-few : goal.returns-clause-few
unfolding waits_of processes_of
returns-clause-few c p from_one known none =
    let self = c.args.self.now in room_for self.processes self.waits.items p self.well_formed self.apart from_one known none
