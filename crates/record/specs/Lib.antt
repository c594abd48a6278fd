pub mod Record
pub mod Read
pub mod Seal
pub mod Open
pub mod Next
pub mod Demand3
pub mod Laws
