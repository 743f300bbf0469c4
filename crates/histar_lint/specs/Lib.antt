-- The definitions of this crate that contracts cite.
pub mod Lines
pub mod Calls
pub mod FreeParts
pub mod Rules
pub mod Laws
pub mod Session
