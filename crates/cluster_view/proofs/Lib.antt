pub mod StepLemmas
pub mod OrderLaws
pub mod OneDecisionLaws
