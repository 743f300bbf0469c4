-- The lemmas of this crate.
pub mod Adding
pub mod FlatTree
pub mod OneTree
pub mod TreeMatched
pub mod OneTarget
pub mod Resolving
pub mod PathsMatched
pub mod AddingProcesses
pub mod HeldJobs
pub mod ProcessesMatched
