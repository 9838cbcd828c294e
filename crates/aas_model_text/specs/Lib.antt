pub mod Many
pub mod formers
