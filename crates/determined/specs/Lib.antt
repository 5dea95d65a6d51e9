pub mod Determined
pub mod Answered
