-- Whose votes are counted (the words are this project's choice).
use Rattle.std.specs.Prelude.{Bool}
use Rattle.cluster_view.specs.declared.hello.Hello.{Hello}
use Rattle.cluster_view.specs.declared.votes.Voters.{Voters}
use Rattle.cluster_view.specs.declared.votes.Voters.TheVariants.{All, Of, With, Against}
use Rattle.cluster_view.specs.Hellos.{tells}
use Rattle.cluster_view.specs.Tables.{has_other, has_same}
use Rattle.cluster_view.specs.Votes.{everyone}

-- whether the member's votes are counted
abbrev pub is_voter : Voters → Hello → Bool
is_voter All = everyone
is_voter (Of view) = tells view
is_voter (With trace view mark) = has_same trace view mark
is_voter (Against trace view mark) = has_other trace view mark
