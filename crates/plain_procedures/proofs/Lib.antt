pub mod ColumnLemmas
pub mod Counting
pub mod PointLemmas
pub mod Going
pub mod Inner
