pub mod Callers
pub mod Keeping
pub mod Admitting
pub mod Judging
pub mod Sound
pub mod Indexed
