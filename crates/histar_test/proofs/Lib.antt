-- The lemmas of this crate.
pub mod StepLemmas
pub mod StepLaws
pub mod LineLaws
pub mod StrictLaws
pub mod NeverLaws
pub mod CheckLemmas
pub mod WatchLemmas
pub mod LookLemmas
pub mod RunLemmas
pub mod ShownTrusted
pub mod ChildNames
pub mod ClaimNames
pub mod FileLemmas
pub mod TestLemmas
pub mod FaultLemmas
pub mod FaultLaws
