-- A request comes to something, and a manager stands for something: for the laws `step_has_some_outcome` and `managers_stand_for_some`.
pub mod AtLeastOneLemmas
pub mod SomeBlockerLaws
pub mod SomeCallLaws
pub mod SomeOutcomeLaws
pub mod SomeStateLaws
pub mod StaysWholeLemmas
pub mod WholeLemmas
