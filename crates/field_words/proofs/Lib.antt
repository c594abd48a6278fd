pub mod First
pub mod Cut
pub mod Given
pub mod Step
pub mod Taken
pub mod Whole
pub mod Laws
