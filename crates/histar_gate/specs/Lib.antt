-- The definitions of this crate that contracts cite.
pub use Rattle.histar_rules.specs.Rules
pub use Rattle.histar_object.specs.Objects
pub use Rattle.histar_rules.specs.Rights
pub use Rattle.histar_object.specs.State
pub use Rattle.histar_container.specs.ObjectsModel
