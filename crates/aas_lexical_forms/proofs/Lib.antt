pub mod Begin
pub mod Cuts
pub mod Values
pub mod Repeat
pub mod Dodges
pub mod Words
