pub mod Dump
pub mod Opening
pub mod Counts
pub mod Texts
pub mod Laws
