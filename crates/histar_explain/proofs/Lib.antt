-- The lemmas of this crate.
pub mod LeftExceptions
pub mod Passes
pub mod UnmadePasses
pub mod Shown
pub mod Keys
pub mod Parties
pub mod KeyedLabels
pub mod Refused
pub mod FailingTests
pub mod Opens
pub mod Needs
pub mod Blame
pub mod RangeGrounds
pub mod Grounds
pub mod NamedTests
pub mod NamedDenial
