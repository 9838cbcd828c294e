pub mod Coding
mod Following
mod Open
mod Paged
mod Plain
mod Walked
