-- Votes and majorities (votequorum(5): a majority of the expected votes).
use Rattle.std.specs.Prelude.{◌<◌, ◌*◌, ℕ, Bool, List, Any, true, if◌then◌else◌}
use Rattle.std.specs.List.{sum_by}
use Rattle.cluster_view.specs.declared.hello.Hello.{Hello}

-- the votes of the members that pass a test
abbrev pub votes_of : (Hello → Bool) → List Hello → ℕ
votes_of counts hellos = sum_by (λ hello. if counts hello then hello.votes else 0) hellos

-- so many votes are more than half of the expected ones
abbrev pub IsMajority : List Hello → ℕ → Type 0
IsMajority hellos votes = Any (λ hello. hello.electorate.expected < 2 * votes) hellos

-- each member passes
abbrev pub everyone : Hello → Bool
everyone hello = true
