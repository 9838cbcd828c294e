mod Answered
pub mod Drops
pub mod FitWalk
pub mod Fronts
mod Kept
mod Lenders
pub mod NameSteps
pub mod PatchWalk
pub mod PathSteps
pub mod PlaceNumbers
pub mod PlaceSteps
pub mod RunsFound
pub mod Utf8
