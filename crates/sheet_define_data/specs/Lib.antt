pub mod Club
pub mod Examples
pub mod Grammar
pub mod Printing
