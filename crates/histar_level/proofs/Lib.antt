-- The lemmas of this crate.
pub mod Ranks
pub mod Star
pub mod Changes
pub mod Exceptions
pub mod Functions
pub mod Equality
