-- The definitions of this crate that contracts cite.
pub mod Rules
pub mod Laws
pub mod Session
