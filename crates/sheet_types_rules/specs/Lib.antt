pub mod Columns
pub mod Formulas
pub mod Kinds
pub mod Statements
pub mod Views
pub mod Parameters
