-- The lemmas of this crate.
pub mod Steps
pub mod Joins
pub mod JoinedValues
pub mod Letters
pub mod Sides
pub mod TextLemmas
pub mod Listing
pub mod TableLaws
pub mod ShownTables
pub mod Changes
pub mod UsersShown
pub mod UserListing
pub mod UserMeaning
pub mod UserOrder
