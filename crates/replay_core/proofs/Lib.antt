mod Common
pub mod CheckingLemmas
pub mod CollectingLemmas
pub mod DeviceLemmas
pub mod GatheringLemmas
pub mod JournalSourceLemmas
pub mod ListLemmas
pub mod OutputLemmas
pub mod VerdictLaws
pub mod OutputVerdictLaws
pub mod WatchingLemmas
