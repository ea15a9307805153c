pub mod Watching
pub mod Numbers
pub mod Monitors
