pub mod Back
pub mod Laws
pub mod Quoting
