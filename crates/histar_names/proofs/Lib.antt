-- The lemmas of this crate.
pub mod Parts
pub mod Remembering
pub mod NamedCategories
pub mod NewNames
pub mod KnownNames
pub mod NamedObjects
pub mod LocatedObjects
pub mod RightUsers
