-- The definitions of this crate that contracts cite.
pub mod Comparison
pub mod Isolation
pub mod Following
pub mod Trees
pub mod Replies
pub mod VerdictText
