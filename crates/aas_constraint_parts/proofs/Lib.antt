pub mod KeyTexts
pub mod Least
pub mod Lists
pub mod Rising
pub mod Sets
pub mod Tests
pub mod Told
