pub mod Unchanged
pub mod Replies
pub mod Lengths
pub mod KeptCallers
pub mod Soundness
pub mod Leading
pub mod Faultless
