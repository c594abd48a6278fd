pub mod Written
pub mod Room
pub mod Texts
pub mod Counted
pub mod ReadBack
pub mod Laws
