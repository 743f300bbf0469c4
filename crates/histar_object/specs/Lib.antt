-- The definitions of this crate that contracts cite.
pub mod Codes
pub mod Lending
pub mod Links
pub mod Objects
pub mod State
pub mod Slots
