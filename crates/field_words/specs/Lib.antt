pub mod Words
pub mod Fields
pub mod Given
pub mod Laws
