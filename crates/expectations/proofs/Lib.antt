pub mod LineLemmas
pub mod WayLemmas
pub mod NoteLemmas
pub mod WordLemmas
pub mod ExpectationLemmas
