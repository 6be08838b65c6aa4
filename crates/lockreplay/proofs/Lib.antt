pub mod CommandLineLemmas
pub mod GivenWordLemmas
