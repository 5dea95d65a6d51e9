pub mod Stored
pub mod Sent
pub mod Filled
pub mod Effects
pub mod Kept
pub mod Unique
