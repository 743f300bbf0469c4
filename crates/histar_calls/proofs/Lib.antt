-- The lemmas of this crate.
pub mod RepliesOfPrograms
pub mod MakingDirectories
pub mod MakingFiles
pub mod FileCalls
