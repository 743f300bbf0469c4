-- The definitions of this crate that contracts cite.
pub mod Session
pub mod Answers
pub mod Run
