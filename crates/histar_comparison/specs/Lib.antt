-- The definitions of this crate that contracts cite.
pub mod Replies
pub mod Observation
pub mod Whole
pub mod Compared
pub mod Explained
pub mod Jobs
pub mod Memory
