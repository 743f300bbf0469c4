-- The lemmas of this crate.
pub mod Replays
pub mod Turns
pub mod Scripts
pub mod WholeRuns
pub mod TextRuns
pub mod Outputs
pub mod OneTrace
pub mod NamedLines
pub mod NewCategory
pub mod DeniedRequests
pub mod ReasonsOfLines
pub mod DeniedObjects
pub mod UsedLabels
pub mod RefusedLines
pub mod CompleteLines
pub mod DistinctPurposes
