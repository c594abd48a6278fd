mod Rounds
mod Extended
mod Words
-- for the fast way, which is the block cipher's own crate
pub mod Keys
pub mod Invert
mod Calls
pub mod Laws
mod Examples
