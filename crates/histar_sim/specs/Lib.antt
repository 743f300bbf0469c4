-- The definitions of this crate that contracts cite.
pub mod Reads
pub mod Named
pub mod RawCalls
pub mod Simulation
pub mod Refines
pub mod Laws
pub mod NamesOfLines
pub mod NamedDenials
