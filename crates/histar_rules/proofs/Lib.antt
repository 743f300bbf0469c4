-- The lemmas of this crate.
pub mod Passing
pub mod WellLabelled
pub mod Shapes
pub mod Sound
pub mod Tainted
pub mod TaintedMoves
pub mod TaintedCalls
pub mod Observed
pub mod LinkedObjects
pub mod Relabelled
pub mod Moving
pub mod OwnLabels
pub mod EnteringGates
