pub mod Knowing
pub mod Coming
pub mod Relaying
