mod Payloads
pub mod PathTexts
pub mod Sendable
mod WholeNumbers
