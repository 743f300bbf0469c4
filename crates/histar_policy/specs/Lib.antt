-- The definitions of this crate that contracts cite.
pub mod Names
pub mod Takers
pub mod Notes
pub mod Warnings
pub mod Writes
pub mod Sets
pub mod Answers
pub mod Session
pub mod Laws
