pub mod Possible
pub mod Lacking
pub mod Moves
pub mod Taken
pub mod Found
pub mod Counted
pub mod Meant
pub mod Unique
