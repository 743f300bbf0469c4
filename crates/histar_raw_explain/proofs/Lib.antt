-- The lemmas of this crate.
pub mod Errors
pub mod Pieces
pub mod CallsExplained
pub mod SessionExplained
