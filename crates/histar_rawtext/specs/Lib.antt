-- The definitions of this crate that contracts cite.
pub mod RawText
pub mod RawTextLaws
pub mod Readable
pub mod Reading
pub mod Outcome
pub mod Memory
