-- The definitions of this crate that contracts cite.
pub mod Device
pub mod Input
pub mod Memory
pub mod Writing
