mod Common
pub mod AnswerLemmas
pub mod ConstantLaws
pub mod Crossing
pub mod LastLemmas
pub mod LeadsLemmas
pub mod MailLemmas
pub mod NoteLemmas
pub mod SessionLemmas
pub mod queue
pub mod runs
pub mod tallies
