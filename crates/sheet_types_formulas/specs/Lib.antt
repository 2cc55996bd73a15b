pub mod Answers
pub mod Forms
pub mod Kinds
pub mod Names
pub mod Typing
