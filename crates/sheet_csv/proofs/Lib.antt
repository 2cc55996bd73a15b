pub mod Digits
pub mod FieldLemmas
pub mod FileLemmas
pub mod HeaderLemmas
pub mod Lengths
pub mod RowLemmas
pub mod Taking
pub mod TurnLemmas
