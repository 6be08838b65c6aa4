mod Common
pub mod Blocking
pub mod Crossing
pub mod HolderLemmas
pub mod InTheWay
pub mod LeastJoins
pub mod Leasts
pub mod Moving
pub mod Order
pub mod Standings
