pub mod State
pub mod Steps
pub mod InvSteps
pub mod Laws
