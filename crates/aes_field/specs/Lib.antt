pub mod Field
pub mod Words
pub mod Tables
pub mod Laws
