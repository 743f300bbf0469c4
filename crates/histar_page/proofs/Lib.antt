-- The lemmas of this crate.
pub mod EscapeLemmas
pub mod WordLemmas
pub mod OwnLemmas
pub mod StoryLemmas
pub mod SessionLemmas
pub mod CallerLemmas
pub mod PageLemmas
pub mod ViewLemmas
pub mod Nests
