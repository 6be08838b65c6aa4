mod Common
pub mod AnyLemmas
pub mod BehindLemmas
pub mod BlockingLemmas
pub mod CycleLaws
pub mod DecideLemmas
pub mod FileLemmas
pub mod LinkLemmas
pub mod ListLemmas
pub mod ListedLemmas
pub mod PairLemmas
pub mod ProcessLemmas
pub mod QueueLemmas
pub mod ReachLemmas
pub mod SettledLemmas
pub mod WaitingLemmas
