pub mod FileDisk
pub mod Folder
pub mod StoredFile
pub mod TcpWire
