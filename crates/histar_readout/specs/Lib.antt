-- The definitions of this crate that contracts cite.
pub mod Tree
pub mod TreeEntries
pub mod TreeLines
pub mod FlatTree
pub mod Resolve
pub mod Process
pub mod Processes
pub mod ProcessLines
pub mod Memory
pub mod Laws
