pub mod Refused
pub mod Runs
pub mod Typed
pub mod Acts
pub mod Performing
pub mod Resting
