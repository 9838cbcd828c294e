pub mod Fields
pub mod FieldTypes
pub mod Laws
pub mod Reading
pub mod Records
