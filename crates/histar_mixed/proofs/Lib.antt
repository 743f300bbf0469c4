-- The lemmas of this crate.
pub mod Marks
pub mod ItemsTaken
pub mod LinesRead
