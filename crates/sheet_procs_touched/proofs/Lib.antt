pub mod Rising
pub mod OneCells
pub mod Adding
pub mod Covering
pub mod Finding
