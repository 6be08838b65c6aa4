pub mod ToldLemmas
pub mod Values
