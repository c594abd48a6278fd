pub mod Accepted
pub mod Lookup
pub mod Marks
pub mod Places
pub mod Calls
pub mod Laws
pub mod RowFound
