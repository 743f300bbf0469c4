-- The definitions of this crate that contracts cite.
pub mod Accounts
pub mod Categories
pub mod Guards
pub mod Labels
pub mod NumberedClasses
pub mod LeftByBoot
pub mod Addresses
pub mod Processes
pub mod Directories
pub mod Asked
pub mod Agrees
pub mod Represents
pub mod KeptNames
pub mod Lines
pub mod Laws
