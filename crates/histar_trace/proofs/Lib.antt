-- The lemmas of this crate.
pub mod KeptLabels
pub mod Staying
