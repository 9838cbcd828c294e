pub mod Specific
