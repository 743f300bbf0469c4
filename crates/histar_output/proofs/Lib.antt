-- The lemmas of this crate.
pub mod CutLemmas
pub mod ColourLemmas
pub mod MemberLemmas
pub mod NumberBytes
pub mod PrintLemmas
pub mod FactLemmas
pub mod ShownLemmas
pub mod RefusalLemmas
pub mod ReplyLemmas
