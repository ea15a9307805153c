pub mod State
pub mod Story
pub mod Fit
pub mod Model
