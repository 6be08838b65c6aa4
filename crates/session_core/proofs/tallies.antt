-- What each event tells, as tallies of what was taken and answered: for the numbers and answers of the headline, a session's fact `holds`.
pub mod DescriptorLaws
pub mod FlockLaws
pub mod LockLaws
pub mod Moves
pub mod OutcomeLaws
pub mod ProcessLaws
pub mod StepLaws
pub mod Tally
