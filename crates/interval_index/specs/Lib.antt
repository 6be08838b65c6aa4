pub mod Contents
pub mod Holders
pub mod Leasts
pub mod Reaching
pub mod Runs
pub mod Standing
pub mod Tests
