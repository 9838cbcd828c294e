pub mod InPlace
pub mod Keys
pub mod NotFound
pub mod Places
pub mod Stripped
