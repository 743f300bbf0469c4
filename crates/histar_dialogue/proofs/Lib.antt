-- The lemmas of this crate.
pub mod InputLines
pub mod MoreLines
pub mod Fronts
pub mod ByteCounts
pub mod Following
pub mod Becoming
pub mod Claiming
pub mod Obeying
pub mod Talking
pub mod Runs
