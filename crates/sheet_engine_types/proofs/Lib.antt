pub mod Given
pub mod OneKind
pub mod Contents
pub mod Forms
pub mod Rounds
