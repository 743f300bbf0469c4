-- The lemmas of this crate.
pub mod Rules
pub mod SpacesRight
pub mod BytesKept
pub mod ArgumentsRight
mod CallsRight
pub mod LinesRight
pub mod BrokenRules
mod LinesBefore
mod Steps
pub mod Sayings
