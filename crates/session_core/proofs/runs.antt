-- Runs, their journals and what is drained of a list of arrivals: for the headline, `run_all` and `check_journal`.
pub mod DrainLaws
pub mod DrainLemmas
pub mod GoingOnLaws
pub mod HeadlineLaws
pub mod JournalLemmas
pub mod ReplayLemmas
pub mod RunLaws
pub mod SequencerLemmas
