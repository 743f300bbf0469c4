-- The lemmas of this crate.
pub mod Options
pub mod Causes
pub mod Agreeing
pub mod First
pub mod So
pub mod Absent
pub mod Spoken
pub mod Worked
pub mod Killed
pub mod Started
