pub mod Placing
pub mod Numbers
pub mod Decimal
pub mod Unique
