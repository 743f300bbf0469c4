-- The lemmas of this crate.
pub mod Arguments
pub mod Matches
pub mod Unless
