pub mod ExactlyWhen
pub mod Answers
