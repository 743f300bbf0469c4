-- The lemmas of this crate.
pub mod RepliesOfMoves
pub mod TakingAway
pub mod Deciding
