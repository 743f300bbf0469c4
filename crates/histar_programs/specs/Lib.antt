-- The definitions of this crate that contracts cite.
pub mod Refusals
pub mod Replies
pub mod Programs
pub mod Parts
pub mod Laws
pub mod Caller
pub mod Kin
pub mod Start
pub mod Users
