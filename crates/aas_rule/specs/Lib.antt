pub mod Rule
pub mod State
