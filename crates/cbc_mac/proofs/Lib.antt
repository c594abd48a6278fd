mod Ready
pub mod Laws
