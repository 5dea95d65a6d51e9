pub mod Lent
pub mod Shown
