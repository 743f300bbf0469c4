-- The lemmas of this crate.
pub mod Segments
pub mod RepliesOfProcessCalls
pub mod Births
pub mod Rooms
pub mod Calling
pub mod Spawning
pub mod Exiting
pub mod Killing
