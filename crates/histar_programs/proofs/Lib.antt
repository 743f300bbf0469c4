-- The lemmas of this crate.
pub mod Running
pub mod Exits
pub mod Directories
pub mod Finding
pub mod Scanning
pub mod Homes
pub mod DenialReplies
pub mod RepliesOfParts
pub mod Making
pub mod StartLengths
