pub mod Stored
pub mod Limits
pub mod Rows
pub mod Places
pub mod Births
pub mod Deaths
pub mod Removals
pub mod Schemas
