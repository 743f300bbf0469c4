-- The definitions of this crate that contracts cite.
pub mod Clues
pub mod Purposes
pub mod Births
pub mod KnownBirths
pub mod Location
pub mod Runners
pub mod NamedWords
pub mod Laws
