pub mod Club
pub mod Courses
pub mod Lifting
pub mod Printed
pub mod Tokens
pub mod Workshop
