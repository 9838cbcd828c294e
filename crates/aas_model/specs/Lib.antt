pub mod Common
pub mod Element
pub mod Payload
