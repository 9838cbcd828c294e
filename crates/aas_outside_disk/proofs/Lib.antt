mod Crashes
mod DiskCalls
mod Follows
mod Images
pub mod Later
mod Ones
mod Pieces
mod Records
mod Written
