mod Common
pub mod HolderLemmas
pub mod BlockedLemmas
pub mod WaitLemmas
pub mod NextLemmas
pub mod GrantLemmas
pub mod SettlingLaws
pub mod FollowingLaws
pub mod ExampleLaws
