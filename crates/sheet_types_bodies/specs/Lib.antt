pub mod Bodies
pub mod Calls
pub mod Parts
pub mod Rules
pub mod Statements
pub mod Targets
