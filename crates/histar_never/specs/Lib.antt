-- The definitions of this crate that contracts cite.
pub mod Changing
pub mod Letters
pub mod Whom
pub mod Claims
pub mod Faults
pub mod Breaches
pub mod Machines
pub mod Laws
