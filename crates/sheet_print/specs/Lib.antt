pub mod Cells
pub mod Widths
pub mod Lines
pub mod Books
pub mod Shown
