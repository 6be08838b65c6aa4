-- Lemmas.
mod Common
pub mod ListLemmas
pub mod WorldLemmas
pub mod PartLemmas
pub mod BlockLemmas
pub mod TrackLemmas
pub mod FollowLemmas
pub mod CallLemmas
pub mod CallLaws
pub mod StripLemmas
pub mod ClientLaws
pub mod ForgetLaws
pub mod ServerLaws
