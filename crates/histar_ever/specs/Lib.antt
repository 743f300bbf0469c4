-- The definitions of this crate that contracts cite.
pub mod States
pub mod Ever
pub mod EverUsers
pub mod Laws
pub mod Gathering
pub mod GatheringUsers
pub mod Following
pub mod Session
