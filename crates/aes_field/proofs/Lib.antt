pub mod Computed
pub mod Tables
mod Additive
pub mod Linear
pub mod Inverse
pub mod Unmix
pub mod Laws
