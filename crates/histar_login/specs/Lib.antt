-- The definitions of this crate that contracts cite.
pub mod Boot
pub mod Booting
pub mod Login
