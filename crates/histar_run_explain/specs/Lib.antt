-- The definitions of this crate that contracts cite.
pub mod Entries
pub mod Session
pub mod Run
pub mod Output
pub mod Laws
pub mod Complete
