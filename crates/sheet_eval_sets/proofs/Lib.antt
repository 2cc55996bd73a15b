pub mod CellLemmas
pub mod Cutting
pub mod KeyLemmas
pub mod Unions
