-- The lemmas of this crate.
pub mod Pieces
pub mod Runners
pub mod Powers
pub mod Places
pub mod Descent
pub mod Lineages
pub mod ShownTrust
pub mod ShownSecrets
pub mod ShownFlows
pub mod Observing
pub mod ReasonsMeant
pub mod Runs
pub mod Printed
