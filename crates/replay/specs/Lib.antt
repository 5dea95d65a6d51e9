pub mod Refused
pub mod Taken
pub mod Replaying
pub mod Promises
pub mod Running
