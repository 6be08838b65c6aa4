-- The lemmas of this crate.
mod Common
pub mod ListLemmas
pub mod ChangeLemmas
pub mod ChainLemmas
pub mod LineLemmas
pub mod KeptLemmas
pub mod ByteLemmas
pub mod ActLemmas
pub mod SearchLemmas
pub mod TraceLemmas
pub mod HeldLemmas
pub mod FileLemmas
