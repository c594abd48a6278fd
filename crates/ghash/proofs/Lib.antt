pub mod Multiply
pub mod Field
pub mod Wide
pub mod Entries
pub mod Windows
pub mod Laws
pub mod Hashed
pub mod Vectors
