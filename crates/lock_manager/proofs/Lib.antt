mod Common
pub mod ChoiceLemmas
pub mod Crossing
pub mod SectionLemmas
pub mod calls
pub mod kept
pub mod some
pub mod unique
pub mod apart
