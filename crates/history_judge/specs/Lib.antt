-- What the contracts of this crate cite.
pub mod Histories
pub mod FilesApart
pub mod HistoryOrders
pub mod Merging
pub mod Kept
pub mod Entries
pub mod FilesView
pub mod FileOrders
pub mod HeldView
pub mod Known
pub mod JudgeView
