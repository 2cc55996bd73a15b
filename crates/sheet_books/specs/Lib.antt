pub mod Books
pub mod Schemas
pub mod Within
