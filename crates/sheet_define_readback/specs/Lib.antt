pub mod Back
pub mod Lengths
pub mod Lines
