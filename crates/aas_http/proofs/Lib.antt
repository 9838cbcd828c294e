mod Adding
mod Awaiting
pub mod Ending
pub mod FirstLaws
mod Firsts
mod Lengths
mod Values
