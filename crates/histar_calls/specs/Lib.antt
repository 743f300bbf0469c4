-- The definitions of this crate that contracts cite.
pub mod Read
pub mod Write
pub mod Create
pub mod StatCall
pub mod Laws
pub mod Append
pub mod Mkdir
pub mod ListCall
