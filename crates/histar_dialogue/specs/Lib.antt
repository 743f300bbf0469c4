-- The definitions of this crate that contracts cite.
pub mod Input
pub mod Texts
pub mod Commands
pub mod Shelf
pub mod Talk
pub mod Parts
pub mod Claims
pub mod Asked
pub mod Running
pub mod Refusals
pub mod Session
pub mod Steps
pub mod Dialogue
pub mod Exchange
