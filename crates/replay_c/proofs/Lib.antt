pub mod Packing
pub mod Unique
