-- The lemmas of this crate.
pub mod GivingBack
pub mod Scratching
pub mod Wrapping
pub mod RepliesOfWraps
