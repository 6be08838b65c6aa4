pub mod Descriptors
pub mod Releases
pub mod Calls
pub mod Rows
pub mod Soundness
pub mod TablesView
