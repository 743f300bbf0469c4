-- The definitions of this crate that contracts cite.
pub mod LeakLines
pub mod ChangeCalls
pub mod LeakText
pub mod Titles
pub mod Findings
pub mod Session
