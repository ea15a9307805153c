pub mod Smallness
pub mod Weights
pub mod Back
