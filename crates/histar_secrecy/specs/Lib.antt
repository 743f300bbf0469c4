-- The definitions of this crate that contracts cite.
pub mod Ways
pub mod Logins
pub mod Roles
pub mod Noninterference
pub mod Changers
pub mod Release
pub mod Flows
pub mod Leaks
pub mod ShownRoles
