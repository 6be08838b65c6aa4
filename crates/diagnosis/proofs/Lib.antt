pub mod LineLemmas
pub mod PlaceLemmas
