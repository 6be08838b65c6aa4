-- What the contracts of this crate cite.
pub mod Verdicts
pub mod OrderTold
pub mod Told
pub mod Checked
