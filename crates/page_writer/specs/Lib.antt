pub mod Written
pub mod Write
pub mod Laws
pub mod Chosen
