pub mod Dangling
pub mod Examples
pub mod Held
pub mod Laws
pub mod OwnMembers
pub mod Resolved
