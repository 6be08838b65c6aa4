pub mod Changes
pub mod Facts
pub mod Ranges
pub mod Replacing
pub mod Resolving
pub mod SomeRuns
