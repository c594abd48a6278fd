pub mod State
pub mod Cipher
pub mod KeyExpansion
pub mod InvCipher
pub mod Calls
pub mod Laws
