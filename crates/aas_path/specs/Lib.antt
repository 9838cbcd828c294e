pub mod Gaps
pub mod ParseFaults
pub mod PathText
pub mod Refusals
pub mod Runs
pub mod StepText
pub mod Walk
