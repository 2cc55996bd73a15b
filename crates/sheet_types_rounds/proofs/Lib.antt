pub mod Alike
pub mod KnownLemmas
pub mod MentionLaws
pub mod SteadyLemmas
pub mod TypeLemmas
pub mod WaitLaws
pub mod WaitLemmas
