-- The definitions of this crate that contracts cite.
pub mod Causes
pub mod Reasons
pub mod Sentences
pub mod Laws
