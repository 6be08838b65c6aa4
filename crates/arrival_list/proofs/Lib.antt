pub mod Kept
pub mod Line
pub mod Seen
