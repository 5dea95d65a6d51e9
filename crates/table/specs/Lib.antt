pub mod Checked
pub mod Exact
pub mod Told
pub mod Labels
pub mod ExactlyWhen
