pub mod Seam
pub mod Shown
