pub mod Attributes
pub mod Decided
pub mod Faults
pub mod Lexical
pub mod Rules
pub mod Sentences
pub mod Sites
pub mod Texts
