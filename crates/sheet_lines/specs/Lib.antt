pub mod Lines
pub mod Division
pub mod Told
pub mod Unread
pub mod Reading
pub mod Dividing
