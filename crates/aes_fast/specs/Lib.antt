pub mod ByTables
pub mod Right
pub mod Halves
pub mod FourWords
pub mod ThreeWords
pub mod Start
pub mod OneProof
pub mod Laws
