pub mod Adding
pub mod Giving
pub mod Loads
pub mod Meeting
pub mod Putting
pub mod TextPoured
