-- The lemmas of this crate.
pub mod OneLines
pub mod StateTexts
pub mod ReplyTexts
pub mod CallTexts
pub mod TextLines
pub mod MarkedLines
pub mod RawTexts
pub mod WhyTexts
pub mod WhyLines
pub mod WordTexts
pub mod LinesInOrder
pub mod ScriptsInOrder
pub mod OutputsInOrder
pub mod TableFronts
