-- What the contracts of this crate cite.
pub mod Locks
pub mod ByteLists
pub mod ByteView
pub mod FlockView
pub mod Permitted
pub mod Moments
pub mod Chains
pub mod PossibilityView
pub mod Searching
pub mod Orders
pub mod Traces
pub mod FileView
pub mod HeldView
