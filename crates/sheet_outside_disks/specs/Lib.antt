pub mod Drive
pub mod Image
