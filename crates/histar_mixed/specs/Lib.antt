-- The definitions of this crate that contracts cite.
pub mod Mixed
pub mod Taking
