-- The lemmas of this crate.
mod Common
pub mod NameLemmas
pub mod ApartLemmas
pub mod MergeLemmas
pub mod PassLemmas
pub mod OrderLemmas
pub mod HeldLemmas
pub mod FilesLemmas
pub mod JudgeLemmas
