-- The definitions of this crate that contracts cite.
pub mod Names
pub mod Causes
pub mod Barriers
pub mod Asked
pub mod Reasons
pub mod Ways
pub mod Views
pub mod Implied
pub mod Absences
pub mod Logging
pub mod Session
pub mod Run
pub mod Answering
