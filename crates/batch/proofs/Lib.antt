pub mod Tests
pub mod Independent
pub mod Text
pub mod Unique
