pub mod ClassV
pub mod Law
pub mod OnePath
pub mod Valid
pub mod Values
