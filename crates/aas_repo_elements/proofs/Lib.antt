mod Deleted
mod Inserted
mod Placed
mod Replaced
mod Stored
