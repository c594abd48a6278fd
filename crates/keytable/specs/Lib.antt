pub mod Row
pub mod Table
pub mod Calls
pub mod Find
pub mod Laws
pub mod Marks
