-- What the functions of this crate cut off the front of a text. The forms that they cut are defined in the files beside
-- this one, and proved to be these.
pub mod Numbers
pub mod Binary
pub mod Dates
pub mod Times
pub mod Durations
pub mod Media
pub mod Names
