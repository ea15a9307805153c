pub mod Map
pub mod Fault
