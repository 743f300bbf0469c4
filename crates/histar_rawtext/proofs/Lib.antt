-- The lemmas of this crate.
pub mod Parting
pub mod WordTexts
pub mod LabelTexts
pub mod CallTexts
pub mod Numbers
pub mod LabelsRead
pub mod Failing
pub mod Splits
pub mod Commas
pub mod WordsRead
pub mod CallsRead
pub mod CallsRight
