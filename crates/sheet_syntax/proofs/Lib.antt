pub mod Chains
pub mod Formulas
pub mod Ifs
pub mod Loops
pub mod Turns
