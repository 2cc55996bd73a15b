pub mod Loops
pub mod TableLemmas
pub mod ReachLemmas
pub mod RestLemmas
