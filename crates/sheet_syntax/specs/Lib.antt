pub mod Formulas
pub mod Waiting
