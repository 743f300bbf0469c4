-- The definitions of this crate that contracts cite.
pub mod Steps
pub mod Checks
pub mod Watching
pub mod Running
pub mod Session
pub mod Laws
pub mod Faults
