pub mod BesideLemmas
pub mod Crossing
pub mod CutLemmas
pub mod Depths
pub mod Forks
pub mod Growing
pub mod ListLemmas
pub mod Splits
