-- What holds of the machine at every moment, and the state that it shows, after each of its changes: for its facts `kept` and `standing`.
pub mod AfterCloseLemmas
pub mod AfterReleaseLemmas
pub mod BookLemmas
pub mod ChangedFlockLemmas
pub mod ClosingLemmas
pub mod GrantLemmas
pub mod KeptLemmas
pub mod NextStateLemmas
pub mod OwnedLemmas
pub mod ProcessLemmas
pub mod ReleaseLemmas
pub mod SafetyLemmas
pub mod StayOpenLemmas
pub mod SuspendLemmas
pub mod UnlockLemmas
pub mod WaitCloseLemmas
pub mod WaitLemmas
