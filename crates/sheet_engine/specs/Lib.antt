pub mod Seen
pub mod Standings
pub mod Started
