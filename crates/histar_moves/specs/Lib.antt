-- The definitions of this crate that contracts cite.
pub mod Parts
pub mod Unlink
pub mod Rmdir
pub mod Rmtree
pub mod Rename
pub mod Laws
