pub mod Agreeing
pub mod Finding
pub mod Laws
pub mod Recursion
pub mod Rules
pub mod Sound
