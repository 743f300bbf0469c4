-- The definitions of this crate that contracts cite.
pub mod Session
pub mod Laws
