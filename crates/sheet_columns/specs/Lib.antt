pub mod Cells
pub mod Children
pub mod Contents
pub mod ItemOrder
pub mod Statements
pub mod Tree
pub mod Firsts
