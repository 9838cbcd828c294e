pub mod Changed
pub mod Found
pub mod Growing
pub mod Laws
pub mod Lent
pub mod Table
pub mod Written
