pub mod Iterating
pub mod Lists
pub mod Lone
pub mod Tests
pub mod Trees
