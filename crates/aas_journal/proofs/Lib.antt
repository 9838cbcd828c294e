mod Changes
mod Checkpoints
pub mod Disks
pub mod Gates
mod Heads
mod Images
mod Initial
mod Keeping
mod Opening
mod PayloadsRead
mod Placed
mod Records
mod Torn
mod TwoWrites
mod Walks
