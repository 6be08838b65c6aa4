-- What a request comes to is determined: for the law `step_has_one_outcome`.
pub mod AtMostOneLemmas
pub mod DescriptorCallLaws
pub mod FirstBlockerLaws
pub mod OutcomeLaws
pub mod ReleaseLaws
pub mod SettlingLaws
