pub mod Semantics
