-- The lemmas of this crate.
pub mod Pieces
pub mod Replies
pub mod Changing
pub mod ChangesShown
pub mod Passwords
pub mod Members
pub mod ShownLeak
pub mod ShownTitles
pub mod Runs
