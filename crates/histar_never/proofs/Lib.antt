-- The lemmas of this crate.
pub mod Parts
pub mod Spelled
pub mod BadClaims
pub mod Questions
pub mod Firsts
pub mod Broken
pub mod Alone
pub mod Joined
pub mod OnMachines
