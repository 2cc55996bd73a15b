pub mod Columns
pub mod Counts
pub mod Points
pub mod Blocks
pub mod Acts
