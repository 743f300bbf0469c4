-- The definitions of this crate that contracts cite.
pub mod Reasons
pub mod TrustText
pub mod Secrets
pub mod Findings
pub mod FlowsText
pub mod FlowFindings
pub mod FlowLaws
pub mod ReasonLaws
pub mod Session
pub mod Printed
