-- The lemmas of this crate.
pub mod Visiting
pub mod FlatTrees
pub mod Numbers
pub mod Spots
pub mod SpotRights
pub mod SameClasses
pub mod ClassesAlike
pub mod UserSpots
pub mod UserSpotRights
pub mod ThreadUsers
