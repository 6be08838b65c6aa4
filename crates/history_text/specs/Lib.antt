-- What the contracts of this crate cite.
pub mod HistoryText
pub mod HistoryReading
