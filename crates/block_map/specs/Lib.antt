pub mod Blocks
pub mod Kept
pub mod Lending
pub mod Places
pub mod Sizes
pub mod Updates
