-- That the locks which go with an event are the difference of two reports: for `losses_are_differences`.
pub mod ClosingMoves
pub mod DescriptorMoves
pub mod DifferenceLaws
pub mod GoneLaws
pub mod HolderMoves
pub mod ReleaseMoves
pub mod StepMoves
pub mod TakenMoves
