-- What the contracts of this crate cite.
pub mod Alike
pub mod ReaderAndWriter
