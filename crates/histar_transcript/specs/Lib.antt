-- The definitions of this crate that contracts cite.
pub mod Transcript
pub mod Session
pub mod Extended
pub mod Front
pub mod Tried
pub mod TrySession
pub mod TryLaws
pub mod Noted
pub mod NotesLaws
