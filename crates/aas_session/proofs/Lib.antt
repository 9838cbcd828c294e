mod ClientLaws
pub mod ClientSessions
mod Fronts
mod Giving
mod Progress
mod Receiving
mod SoFar
mod Turns
mod WholeReplies
mod Windows
