pub mod Accepted
pub mod Cables
