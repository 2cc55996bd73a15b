pub mod Chosen
pub mod Parented
pub mod Listed
pub mod Gaining
pub mod Characters
