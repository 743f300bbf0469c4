-- The definitions of this crate that contracts cite.
pub mod Answers
pub mod Laws
pub mod Runs
pub mod KernelModel
pub use Rattle.histar_object.specs.Objects
pub use Rattle.histar_rules.specs.Rights
pub use Rattle.histar_object.specs.State
pub use Rattle.histar_container.specs.ObjectsModel
pub use Rattle.histar_container.specs.Tree
pub use Rattle.histar_rules.specs.RawAnswers
pub use Rattle.histar_rules.specs.Rules
pub use Rattle.histar_rules.specs.Sound
pub use Rattle.histar_rules.specs.Visible
