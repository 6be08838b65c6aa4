pub mod ReplayLemmas
pub mod TextLemmas
pub mod WordLemmas
