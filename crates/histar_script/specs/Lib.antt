-- The definitions of this crate that contracts cite.
pub mod Lines
pub mod Script
pub mod CallForms
pub mod Reading
pub mod Memory
pub mod Outcome
pub mod Grammar
pub mod Laws
pub mod Runs
