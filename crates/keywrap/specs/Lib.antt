pub mod Wrap
pub mod Calls
pub mod Laws
