-- The lemmas of this crate.
pub mod Lists
pub mod Naming
pub mod Barriers
pub mod Found
pub mod Spots
pub mod Evaluating
pub mod Implying
pub mod ByRefusal
pub mod Saying
pub mod Lines
pub mod Turns
pub mod WholeRuns
pub mod TextRuns
pub mod ReasonedCalls
