pub mod ReadLemmas
pub mod ToldLemmas
