pub mod Commands
pub mod Sessions
pub mod Trying
pub mod Serving
pub mod Ran
