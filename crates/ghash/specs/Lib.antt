pub mod Field
pub mod Product
pub mod Ghash
pub mod Laws
pub mod Table
pub mod Words
