pub mod InTurn
pub mod Keys
pub mod LeadsBack
pub mod Numbers
pub mod Preorder
pub mod Sites
pub mod TooFar
pub mod UpTo
