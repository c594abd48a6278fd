mod Columns
mod Entries
mod Pairs
mod Steps
mod Shared
mod Fed
mod Three
mod Restored
mod Strings
mod Starts
mod Cipher
pub mod Laws
