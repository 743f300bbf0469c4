-- The lemmas of this crate.
pub mod Calling
pub mod SameProcesses
pub mod Listed
