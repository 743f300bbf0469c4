-- The lemmas of this crate.
pub mod Deciding
pub mod JobCategories
pub mod HandledLines
pub mod Parting
pub mod Attacked
pub mod TracedLines
