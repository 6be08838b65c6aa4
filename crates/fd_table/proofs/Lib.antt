mod Common
pub mod LimitsLemmas
pub mod ListLemmas
pub mod RowsLemmas
pub mod ViewLemmas
pub mod OpeningLemmas
pub mod EntryLemmas
pub mod CallLemmas
pub mod ChangeLemmas
pub mod ReleasedLemmas
pub mod ForkLemmas
pub mod EndProcessLemmas
pub mod TablesLaws
pub mod ConstantLaws
