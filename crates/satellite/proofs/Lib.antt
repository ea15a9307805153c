pub mod Watching
pub mod Ticking
