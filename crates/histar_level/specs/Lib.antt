-- The definitions of this crate that contracts cite.
pub mod Level
pub mod Levels
pub mod Same
