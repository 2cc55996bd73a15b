pub mod Lines
pub mod Runs
pub mod Requests
pub mod Serving
pub mod Outcomes
pub mod Ran
