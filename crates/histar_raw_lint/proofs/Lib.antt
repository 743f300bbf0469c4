-- The lemmas of this crate.
mod Steps
pub mod Parts
mod NumbersKept
mod LabelsKept
mod ValuesKept
mod CallsKept
pub mod BrokenRules
mod ValuesRight
mod CallsRight
pub mod LinesRight
mod FirstBadLine
