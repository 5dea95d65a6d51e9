pub mod Saved
pub mod Placed
