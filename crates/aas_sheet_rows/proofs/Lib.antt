mod Below
mod Children
mod Columns
mod Copied
pub mod Edits
mod Found
mod Grove
mod Laid
mod Loans
mod Made
mod Putting
mod Reached
pub mod Standing
mod Staying
mod Updated
mod Whole
