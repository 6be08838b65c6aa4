-- That an output is no longer than a journal may be: how many notes, locks and waits there are, and how long their texts: for `outputs_are_short`.
pub mod ArrivalLengthLemmas
pub mod HeldCountLemmas
pub mod JournalLengthLemmas
pub mod OutputLengthLaws
pub mod StartLemmas
pub mod StateCountLemmas
pub mod StepCountLemmas
pub mod TextLengthLemmas
