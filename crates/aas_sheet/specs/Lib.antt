pub mod Lent
pub mod SheetStore
