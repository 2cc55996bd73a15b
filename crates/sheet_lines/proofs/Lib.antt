pub mod Telling
pub mod Sending
pub mod Feeds
pub mod Parts
pub mod Lines
pub mod Dividing
