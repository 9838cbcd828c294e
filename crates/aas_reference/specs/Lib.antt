pub mod Faults
pub mod Rules
pub mod Same
pub mod Spelling
pub mod Trees
pub mod Whole
