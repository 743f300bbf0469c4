-- The lemmas of this crate.
mod ThreadLines
mod MixedLines
mod LinesBefore
mod Saying
