pub mod Heads
pub mod Keys
pub mod Members
pub mod Puts
pub mod Script
pub mod Texts
