-- The definitions of this crate that contracts cite.
pub mod Labels
pub mod Stored
pub mod Traces
pub use Rattle.histar_rules.specs.Rules
