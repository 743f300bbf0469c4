-- The lemmas of this crate.
pub mod Kept
pub mod Observed
pub mod Verdicts
pub mod Explanations
pub mod Wholes
pub mod WantingMemory
