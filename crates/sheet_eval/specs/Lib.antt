pub mod Answer
pub mod Made
pub mod Parts
pub mod SoFar
pub mod Told
pub mod Totals
pub mod Turns
