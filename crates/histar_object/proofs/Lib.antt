-- The lemmas of this crate.
pub mod LinkLemmas
pub mod Changes
pub mod Placing
pub mod Numbering
