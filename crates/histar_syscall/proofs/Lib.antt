-- The lemmas of this crate.
pub mod Rooms
pub mod Runs
pub mod Sessions
pub mod Beginnings
pub mod Confined
pub mod OneEnd
pub mod Deciding
pub mod Reached
pub mod Worked
