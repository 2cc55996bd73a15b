pub mod NumberLemmas
pub mod IndexLemmas
pub mod CallerLemmas
