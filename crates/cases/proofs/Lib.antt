pub mod Splitting
pub mod Held
pub mod Rounds
pub mod Named
pub mod Told
pub mod Numbered
pub mod Answers
pub mod Laws
