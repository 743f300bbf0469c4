-- The definitions of this crate that contracts cite.
pub mod ObjectsModel
pub mod Shown
pub mod Tree
pub use Rattle.histar_object.specs.Objects
pub use Rattle.histar_object.specs.State
