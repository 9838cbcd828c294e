pub mod Adds
pub mod Fronts
pub mod Held
pub mod LinkTold
pub mod MatchTold
pub mod TextTold
pub mod Told
