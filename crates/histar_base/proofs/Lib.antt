-- The lemmas of this crate.
pub mod Padded
pub mod PathLaws
