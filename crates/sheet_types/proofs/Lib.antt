pub mod BookLemmas
pub mod FillLemmas
pub mod JudgingLemmas
pub mod SettledLemmas
