pub mod Viewed
pub mod Unique
