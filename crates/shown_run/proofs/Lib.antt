pub mod DrainLemmas
