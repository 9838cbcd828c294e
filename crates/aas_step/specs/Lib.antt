pub mod Causes
pub mod Laws
pub mod Lost
pub mod Made
pub mod Step
pub mod Valid
