pub mod Flying
pub mod Running
