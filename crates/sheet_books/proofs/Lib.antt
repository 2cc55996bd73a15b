pub mod Having
pub mod WithinLemmas
pub mod SchemaLemmas
