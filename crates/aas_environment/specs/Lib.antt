pub mod Environments
pub mod Imports
pub mod Laws
pub mod Members
pub mod Refusing
