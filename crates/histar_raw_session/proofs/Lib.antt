-- The lemmas of this crate.
pub mod LinesRead
pub mod CallsAnswered
pub mod SessionRuns
