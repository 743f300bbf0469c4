-- The lemmas of this crate.
pub mod Passing
pub mod Giving
pub mod Answered
pub mod Named
pub mod Listed
pub mod Spelling
pub mod ByUser
pub mod AfterLogin
