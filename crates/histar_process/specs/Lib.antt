-- The definitions of this crate that contracts cite.
pub mod Parts
pub mod Birth
pub mod Whoami
pub mod StatusCall
pub mod KillCall
pub mod ExitCall
pub mod SpawnCall
pub mod Laws
pub mod Reading
pub mod Births
