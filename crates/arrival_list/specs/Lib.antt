pub mod Arrivals
pub mod Places
pub mod Seeking
