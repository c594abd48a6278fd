pub mod Layout
pub mod Page
pub mod KeyPart
pub mod Read
pub mod Places
pub mod Load
pub mod Laws
