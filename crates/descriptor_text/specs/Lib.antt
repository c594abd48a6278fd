pub mod Lines
pub mod Described
pub mod Laws
