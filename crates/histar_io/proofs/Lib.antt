-- The lemmas of this crate.
pub mod InputLemmas
pub mod Residuals
pub mod WritingLemmas
