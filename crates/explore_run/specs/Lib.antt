-- What the contracts of this crate cite.
pub mod FindingWords
pub mod Explorations
pub mod Interleavings
pub mod Replayed
