-- The runs of an owner may cross threads: that of the tree is known, and not searched for.
use denote.RattleType.{RattleType}
use denote.Param.Send.{sendable, IsSend}
use denote.Struct.Tuple.{Tuple}
use denote.Param.SendFields.{as_row_send, declared_send, variants_send}
use Rattle.std.proofs.Common.{[], ◌∷◌}
use Rattle.std.proofs.Crossing.{Box-send, crosses, send}
use Rattle.range_core.specs.contracts.Mode as mode
use Rattle.range_core.specs.contracts.Span as span
use Rattle.range_core.specs.contracts.RangeList as list
use Rattle.summary_tree.specs.declared.Summary.{Ghosts}
use Rattle.summary_tree.specs.contracts.Tree as tree
use Rattle.summary_tree.proofs.Crossing.{tree_send}
use Rattle.owner_runs.specs.contracts.owner_runs.OwnerRuns as owner
use Rattle.owner_runs.specs.contracts.owner_runs.Kept as kept
use Rattle.owner_runs.specs.contracts.lone_run.LoneRun as lone_run
use Rattle.owner_runs.specs.contracts.lone_run.Place as place
use Rattle.owner_runs.specs.contracts.run_tree.RunTree as run_tree
use Rattle.owner_runs.specs.contracts.set_tree.SetTree as set_tree
use Rattle.owner_runs.specs.contracts.writes.Writes as writes

writes_send : IsSend writes.the_row
writes_send = search sendable depth 20

abbrev run_row : RattleType
run_row = Tuple (mode.the_row ∷ span.the_row ∷ [])

run_send : IsSend run_row
run_send = search (sendable, declared_send, tt) depth 20

tree_of_runs_send : (g : Ghosts (writes.the_row).Denot run_row.Denot) → IsSend (tree.the_row run_row writes.the_row g)
tree_of_runs_send g = tree_send run_row writes.the_row g run_send writes_send

run_tree_send : IsSend run_tree.the_row
run_tree_send = search (sendable, tree_of_runs_send) depth 20

set_tree_send : IsSend set_tree.the_row
set_tree_send = search (sendable, run_tree_send) depth 20

list_send : IsSend list.the_row
list_send = search (sendable, crosses) depth 40

place_send : IsSend place.the_row
place_send = search (run_send, variants_send, tt) depth 20

lone_run_send : IsSend lone_run.the_row
lone_run_send = search (place_send, sendable, declared_send) depth 20

kept_send : IsSend kept.the_row
kept_send = search (Box-send, lone_run_send, list_send, set_tree_send, variants_send, as_row_send, tt) depth 20

pub owner_runs_send : IsSend owner.the_row
owner_runs_send = search (kept_send, send, declared_send, tt) depth 20
