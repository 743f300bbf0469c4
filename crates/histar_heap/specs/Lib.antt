-- The definitions that the contracts of heaps cite.
pub mod Room
