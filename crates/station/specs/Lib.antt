pub mod Line
pub mod Passes
pub mod Relay
