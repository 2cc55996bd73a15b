pub mod Covering
pub mod Imaging
pub mod Mapping
pub mod Putting
pub mod Replaying
pub mod Turning
