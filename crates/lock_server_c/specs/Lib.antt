pub mod Numbers
pub mod Owned
pub mod Told
pub mod Lending
pub mod Listed
