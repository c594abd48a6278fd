pub mod Words
pub mod Strings
pub mod Calls
pub mod Named
pub mod Line
pub mod Run
pub mod Parts
pub mod Laws
