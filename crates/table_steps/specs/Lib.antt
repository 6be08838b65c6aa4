pub mod InTurn
pub mod Spelling
pub mod Places
pub mod Views
pub mod Rule
pub mod Steps
pub mod Shown
