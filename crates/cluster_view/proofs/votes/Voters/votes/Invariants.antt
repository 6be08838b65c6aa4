use Rattle.std.proofs.Common.{◌≡◌, ◌≤◌, ◌*◌, take}
use Rattle.cluster_view.specs.Voters.{is_voter}
use Rattle.cluster_view.specs.Votes.{votes_of}
use Rattle.cluster_view.proofs.votes.Voters.votes.Given as goal

abbrev pub invariant-loop-hello : goal.invariant-loop-hello
invariant-loop-hello l =
    (l.votes ≡ votes_of (is_voter l.self) (take l.hello-index l.hellos)) × (l.votes ≤ l.hello-index * 4294967295)
