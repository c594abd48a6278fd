pub mod Iv
pub mod Calls
pub mod Laws
