pub mod ChildLemmas
pub mod ContentLemmas
pub mod TreeLemmas
