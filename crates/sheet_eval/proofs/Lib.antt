pub mod AnswerLemmas
pub mod Equality
pub mod FormLemmas
pub mod PartLemmas
pub mod Picking
pub mod Reading
pub mod StepLemmas
pub mod TotalLemmas
