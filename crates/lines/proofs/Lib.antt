pub mod Written
pub mod Decimal
pub mod Ordered
pub mod Room
pub mod Unique
