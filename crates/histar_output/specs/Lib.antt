-- The definitions of this crate that contracts cite.
pub mod Cuts
pub mod Parts
pub mod Forms
pub mod Facts
pub mod Written
pub mod Colours
pub mod Laws
