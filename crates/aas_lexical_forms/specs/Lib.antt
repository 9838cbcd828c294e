pub mod Form
pub mod Classes
pub mod Cut
