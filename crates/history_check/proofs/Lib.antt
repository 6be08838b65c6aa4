pub mod LineLemmas
pub mod CheckLemmas
pub mod EndLemmas
pub mod NameLemmas
pub mod TextLemmas
pub mod OrderLemmas
