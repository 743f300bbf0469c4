-- The definitions of this crate that contracts cite.
pub mod Confinement
pub mod Handling
pub mod Answering
pub mod Attack
