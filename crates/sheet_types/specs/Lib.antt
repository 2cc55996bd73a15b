pub mod Elaboration
pub mod WellTyped
