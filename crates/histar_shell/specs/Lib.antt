-- The definitions of this crate that contracts cite.
pub mod Answers
pub mod TreeText
pub mod Machine
pub mod RawCalls
pub mod AnsweredCalls
pub mod Ending
pub mod Outcome
pub mod Meaning
pub mod Memory
pub mod Run
pub mod AllAnswers
pub mod OneTrace
pub mod MachineNames
