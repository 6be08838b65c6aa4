mod Common
pub mod VoteLaws
pub mod LogLemmas
pub mod HearLemmas
pub mod Kept
pub mod ViewLemmas
pub mod HelloLemmas
pub mod OutlivingLaws
pub mod ExtendLemmas
pub mod LateLemmas
pub mod MoveLaws
pub mod HeardLaws
pub mod PutLaws
pub mod SayLaws
pub mod EnterLaws
pub mod EachStepLaws
