-- The definitions of this crate that contracts cite.
pub mod Finds
pub mod InUse
pub mod Kinds
pub mod RawAnswers
pub mod Rights
pub mod Rules
pub mod Sound
pub mod Visible
pub use Rattle.histar_object.specs.Objects
pub use Rattle.histar_object.specs.State
pub use Rattle.histar_container.specs.ObjectsModel
pub use Rattle.histar_container.specs.Tree
pub mod Memory
