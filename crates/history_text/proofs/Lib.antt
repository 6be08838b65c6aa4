mod Common
pub mod ArgumentLemmas
pub mod RequestLemmas
pub mod AnswerLemmas
pub mod HeadLemmas
pub mod ReadingLaws
pub mod RoundTripLaws
