pub mod Blamed
mod LineFeed
mod Poured
mod Put
mod ReadBack
mod Settled
pub mod WellFormed
mod Written
