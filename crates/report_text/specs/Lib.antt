pub mod Dump
pub mod Opens
pub mod Report
pub mod Counted
pub mod Laws
