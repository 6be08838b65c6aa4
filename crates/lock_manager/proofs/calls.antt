-- What a request comes to: for the clauses of `Manager::take`, and what is asked of a manager.
pub mod AskingLemmas
pub mod CommandLemmas
pub mod DescriptorCallLemmas
pub mod FlockCallLemmas
pub mod ManagerLemmas
pub mod ProcessCallLemmas
pub mod ReplyLemmas
pub mod ReportLemmas
pub mod SetLemmas
pub mod SettleLemmas
