pub mod Inside
pub mod Independent
pub mod Refusal
