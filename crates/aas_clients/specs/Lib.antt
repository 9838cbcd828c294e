pub mod Clients
pub mod Earliest
pub mod Fronts
pub mod Kept
pub mod Places
pub mod Replies
pub mod Sockets
pub mod Visits
