pub mod Keeper
pub mod Threefold
pub mod Kept
