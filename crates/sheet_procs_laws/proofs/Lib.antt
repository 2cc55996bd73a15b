pub mod FormulaLemmas
pub mod TypedBooks
pub mod Following
pub mod Changing
pub mod Passing
pub mod Running
