pub mod Forms
pub mod Formless
