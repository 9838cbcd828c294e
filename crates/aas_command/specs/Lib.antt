pub mod Commands
pub mod DataCode
pub mod Encoding
pub mod Refusals
