pub mod Steps
pub mod Story
pub mod Lines
pub mod Run
