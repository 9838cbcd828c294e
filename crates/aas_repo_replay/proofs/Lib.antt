mod Replayed
mod Walked
