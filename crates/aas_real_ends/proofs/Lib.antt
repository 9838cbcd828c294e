mod Folders
mod Images
