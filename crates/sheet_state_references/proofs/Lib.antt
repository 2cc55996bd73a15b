pub mod Between
pub mod Inserted
pub mod Numbers
pub mod Searched
