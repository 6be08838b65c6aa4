pub mod EndLemmas
pub mod ListLemmas
pub mod ModeLemmas
pub mod ReplacingLemmas
pub mod ResolvingLaws
pub mod RunLemmas
