pub mod Floats
pub mod Steps
pub mod Back
pub mod Parts
pub mod Whole
pub mod Agreed
mod Sending
