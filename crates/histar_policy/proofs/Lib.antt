-- The lemmas of this crate.
mod Used
mod Said
mod Answering
mod MadeThings
mod MayDo
mod WrongPasswords
mod Unstarted
mod Writing
mod LoneWriters
