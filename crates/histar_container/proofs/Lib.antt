-- The lemmas of this crate.
pub mod Links
pub mod Shows
pub mod Keeping
pub mod Addresses
pub mod Reaching
pub mod Moves
pub mod Cutting
pub mod TableMoves
pub mod Trees
pub mod Gathering
pub mod Removals
pub mod Roots
pub mod KeepingTrees
