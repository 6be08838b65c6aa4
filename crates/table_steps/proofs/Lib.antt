mod Common
pub mod SpellingLaws
pub mod PlacesLaws
pub mod Pushing
pub mod Frames
pub mod Moves
pub mod ClientSteps
pub mod DeskSteps
pub mod Taking
pub mod Collecting
pub mod Publishing
pub mod Joining
pub mod SeatLemmas
pub mod WorkedWords
