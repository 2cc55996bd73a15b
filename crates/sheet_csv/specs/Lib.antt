pub mod Fields
pub mod Rows
pub mod Readers
pub mod Turns
pub mod Pages
