-- The lemmas of this crate.
pub mod Replies
pub mod Trying
pub mod BadCalls
pub mod CutScripts
pub mod WithoutNotes
