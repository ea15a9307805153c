pub mod Machine
pub mod Flight
pub mod Commanding
pub mod Effects
pub mod Scheduling
pub mod Protecting
pub mod EveryFlight
