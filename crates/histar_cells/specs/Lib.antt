-- The definitions of this crate that contracts cite.
pub mod Cells
pub mod OnePath
pub mod ByClass
pub mod ByUser
pub mod Whose
