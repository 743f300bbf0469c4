-- The definitions of this crate that contracts cite.
pub mod Rows
pub mod Cells
pub mod Shown
pub mod Users
pub mod Session
pub mod RightsTable
pub mod Diff
pub mod Laws
