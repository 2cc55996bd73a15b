pub mod Held
pub mod Keys
pub mod Noted
pub mod Popped
