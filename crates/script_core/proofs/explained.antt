-- That what is explained has one text: for `explanations_have_one_text`.
pub mod CycleLaws
pub mod LossLaws
pub mod ObstacleLaws
pub mod OneTextLaws
pub mod ReportPlaceLemmas
pub mod StateTextLaws
pub mod WaitingMoves
