-- The definitions of this crate that contracts cite.
pub mod Joining
pub mod Tables
pub mod Sides
pub mod Columns
pub mod Lines
pub mod Differences
pub mod Texts
pub mod Shown
pub mod Changes
pub mod UserTables
pub mod UserChanges
pub mod UserTexts
pub mod Gains
pub mod Laws
pub mod UserLaws
