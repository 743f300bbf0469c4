-- The definitions of this crate that contracts cite.
pub mod Codes
pub mod Directory
pub mod Reading
pub mod Writing
pub mod Listing
pub mod Found
pub mod Spelled
pub mod Span
pub mod Checked
pub mod Status
pub mod StatusParts
pub mod Labelling
pub mod Jobs
pub mod Categories
pub mod UserTable
pub mod ShownClass
pub mod ClassLabels
