mod Parts
mod Inverse
mod Stepped
mod RoundTrip
mod Calls
pub mod Laws
