-- The lemmas of this crate.
pub mod Descent
pub mod Matching
pub mod Tables
pub mod Writing
pub mod Runners
pub mod ShownTables
pub mod RightsLines
pub mod TableLemmas
pub mod RowLemmas
pub mod Pieces
pub mod ByUsers
pub mod Runs
pub mod Comparing
pub mod OwnNames
