pub mod Answers
pub mod Fields
pub mod Arguments
pub mod Forms
pub mod Ranges
pub mod Agreeing
