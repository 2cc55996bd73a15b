pub mod Order
pub mod Below
