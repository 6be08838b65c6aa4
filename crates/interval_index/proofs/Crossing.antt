-- An index may cross threads.
use denote.Param.Send.{sendable, IsSend}
use denote.Param.SendFields.{declared_send}
use Rattle.summary_tree.specs.declared.Summary.{Ghosts}
use Rattle.summary_tree.specs.contracts.Tree as tree
use Rattle.summary_tree.proofs.Crossing.{tree_send}
use Rattle.interval_index.specs.contracts.Run as run
use Rattle.interval_index.specs.contracts.index.RunIndex as runs
use Rattle.interval_index.specs.contracts.least.Least as least
use Rattle.interval_index.specs.contracts.reach.Reach as reach
use Rattle.interval_index.specs.contracts.reach.Reaches as reaches

run_send : IsSend run.the_row
run_send = search sendable depth 20

reach_send : IsSend reach.the_row
reach_send = search sendable depth 20

least_send : IsSend least.the_row
least_send = search sendable depth 20

reaches_send : IsSend reaches.the_row
reaches_send = search (reach_send, least_send, declared_send, tt) depth 20

runs_tree_send : (g : Ghosts (reaches.the_row).Denot (run.the_row).Denot) → IsSend (tree.the_row run.the_row reaches.the_row g)
runs_tree_send g = tree_send run.the_row reaches.the_row g run_send reaches_send

pub runs_send : IsSend runs.the_row
runs_send = search (sendable, runs_tree_send) depth 20
