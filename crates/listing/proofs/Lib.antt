pub mod Written
pub mod Linked
pub mod Entries
pub mod Resting
pub mod Unique
pub mod ListLength
