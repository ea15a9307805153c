pub mod Waiting
pub mod Numbers
