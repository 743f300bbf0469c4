-- The definitions of this crate that contracts cite.
pub mod Scratch
pub mod Filling
pub mod WrapCall
pub mod Steps
pub mod Laws
