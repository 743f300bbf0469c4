-- The definitions of this crate that contracts cite.
pub mod Rights
pub mod Running
pub mod Table
pub mod Laws
pub mod Users
