-- The list of waits under the queue policy: for the laws `requests_join_the_queue` and `waits_are_granted_in_turn`.
pub mod AnyLemmas
pub mod JoiningLaws
pub mod TurnLaws
pub mod TurnLemmas
pub mod WaitMoves
pub mod WaitPlaces
