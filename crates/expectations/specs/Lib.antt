-- What the contracts of this crate cite.
pub mod FirstLines
pub mod Expectations
pub mod Judging
